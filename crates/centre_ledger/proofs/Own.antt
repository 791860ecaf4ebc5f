-- The commit of each act is the centre's own, whatever is looked up.
use Rattle.std.proofs.Common.{ℕ, Bool, true, false, List, Option, Some, None, Result, Ok, Err, refl}
use Rattle.bench_base.specs.declared.{words.Node.TheVariants.Centre, words.Verdict.Verdict, refusals.Unread.Unread, refusals.CentreRefusal.CentreRefusal}
use Rattle.bench_base.proofs.Rows.{chosen}
use Rattle.node_acts.specs.Plans.{IsOfNode}
use Rattle.psd_wire.specs.declared.{message.Request.Request, message.DoneMsg.DoneMsg, message.Message.Message}
use Rattle.psd_wire.specs.declared.message.Message.TheVariants as m
use Rattle.psd_wire.specs.Codes.{has_code}
use Rattle.centre_ledger.specs.declared.{rows.DeviceRow.DeviceRow, rows.CustomerRow.CustomerRow, standing.Standing.Standing, taking.CentreAnswer.CentreAnswer}
use Rattle.centre_ledger.specs.Acts.{CentreAct, LookUps, registered_act, opened_act, flagged_act, taken_act, deposited_act, left_act, stood_act, settled_act, repeated_act, turn_act, request_act, done_act, message_act}
use Rattle.centre_ledger.specs.Standing.{ruling_in}

pub register_own : (d origin : ℕ) (key : List ℕ) (o : Option DeviceRow) → IsOfNode Centre (registered_act d origin key o)
register_own d origin key None = refl
register_own d origin key (Some x) = tt

pub open_own : (w : ℕ) (o : Option CustomerRow) → IsOfNode Centre (opened_act w o)
open_own w None = refl
open_own w (Some x) = tt

pub flag_own : (w : ℕ) (flag : Bool) (o : Option CustomerRow) → IsOfNode Centre (flagged_act w flag o)
flag_own w flag None = tt
flag_own w flag (Some x) = refl

taken_own : (w n a : ℕ) (x : CustomerRow) (result : Result (Option CustomerRow) CentreRefusal) → IsOfNode Centre (taken_act w n a x result)
taken_own w n a x (Err y) = tt
taken_own w n a x (Ok None) = tt
taken_own w n a x (Ok (Some next)) = refl

pub deposit_own : (w n a : ℕ) (o : Option CustomerRow) → IsOfNode Centre (deposited_act w n a o)
deposit_own w n a None = tt
deposit_own w n a (Some x) = taken_own w n a x _

pub left_own : (w left : ℕ) (o : Option CustomerRow) → IsOfNode Centre (left_act w left o)
left_own w left None = tt
left_own w left (Some x) = tt

pub stood_own : (d : ℕ) (o : Option Standing) → IsOfNode Centre (stood_act d o)
stood_own d None = tt
stood_own d (Some a) = tt

settled_own : (x : DeviceRow) (n : ℕ) (result : Result (Option DeviceRow) CentreRefusal) → IsOfNode Centre (settled_act x n result)
settled_own x n (Err y) = tt
settled_own x n (Ok None) = tt
settled_own x n (Ok (Some next)) = refl

again_own : (x : DeviceRow) (o : Option (Verdict × List ℕ)) → IsOfNode Centre (repeated_act x o)
again_own x None = tt
again_own x (Some y) = tt

turn_own : (bytes : List ℕ) (q : Request) (x : DeviceRow) (at : LookUps) (result : Result Bool CentreRefusal) → IsOfNode Centre (turn_act bytes q x at result)
turn_own bytes q x at (Err y) = tt
turn_own bytes q x at (Ok true) = again_own x (ruling_in x)
turn_own bytes q x at (Ok false) = refl

request_own : (bytes : List ℕ) (q : Request) (o : Option DeviceRow) (at : LookUps) → IsOfNode Centre (request_act bytes q o at)
request_own bytes q None at = tt
request_own bytes q (Some x) at = chosen (λ (a : CentreAct CentreAnswer). IsOfNode Centre a) (has_code x.key bytes) _ _ (λ _. turn_own bytes q x at _) (λ _. tt)

done_own : (bytes : List ℕ) (q : DoneMsg) (o : Option DeviceRow) → IsOfNode Centre (done_act bytes q o)
done_own bytes q None = tt
done_own bytes q (Some x) = chosen (λ (a : CentreAct CentreAnswer). IsOfNode Centre a) (has_code x.key bytes) _ _ (λ _. settled_own x q.number _) (λ _. tt)

pub take_own : (bytes : List ℕ) (at : LookUps) (x : Result Message Unread) → IsOfNode Centre (message_act bytes at x)
take_own bytes at (Ok (m.Request q)) = request_own bytes q (at.device q.device) at
take_own bytes at (Ok (m.Done q)) = done_own bytes q (at.device q.device)
take_own bytes at (Ok (m.Reply p)) = tt
take_own bytes at (Ok (m.Debit q)) = tt
take_own bytes at (Ok (m.Release x)) = tt
take_own bytes at (Err x) = tt
