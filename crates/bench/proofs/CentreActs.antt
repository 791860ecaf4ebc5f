-- The acts of the centre's calls: what they change, and how they are reported.
use Rattle.std.proofs.Common.{◌≢◌, ℕ, List, Option, Some, None, refl, inl, inr, arith}
use Rattle.bench_base.specs.declared.{words.Node.TheVariants.Centre, refusals.CentreRefusal.CentreRefusal}
use Rattle.bench_base.specs.declared.events.Event.TheVariants as ev
use Rattle.bench_base.specs.declared.events.Reply.TheVariants as r
use Rattle.node_acts.specs.Plans.{IsOfNode}
use Rattle.node_acts.proofs.OfCommits.{of_commit, commit_says}
use Rattle.node_storage.specs.declared.node.Node.{Ghosts}
use Rattle.node_storage.specs.Shown.{IsFitting}
use Rattle.centre_ledger.specs.declared.{rows.Row.Row, rows.CustomerRow.CustomerRow, taking.CentreAnswer.CentreAnswer}
use Rattle.psd_wire.specs.Grammar.{read}
use Rattle.centre_ledger.specs.declared.taking.CentreAnswer.TheVariants as answer
use Rattle.centre_ledger.specs.Acts as acts
use Rattle.centre_ledger.specs.Acts.{CentreAct, in_books, left_act}
use Rattle.centre_ledger.specs.ActLaws.{LeavesSound, SoundActs}
use Rattle.centre_ledger.specs.Books.{Books, AreSound, device_at, customer_at, left_in, put_row}
use Rattle.centre_ledger.specs.Plans.{told_registered, told_opened, told_deposited, told_flagged, told_balance, told_taken}
use Rattle.centre_ledger.proofs.Own.{register_own, open_own, flag_own, deposit_own, left_own, take_own}
use Rattle.centre_ledger.proofs.SoundActs.{leaves}
use Rattle.bench_abstraction.specs.declared.calls.CentreCall.{CentreCall}
use Rattle.bench_abstraction.specs.declared.calls.CentreCall.TheVariants as call
use Rattle.bench_abstraction.specs.Centre.{centre_act, IsBytesCall}
use Rattle.bench.specs.Calls.{centre_call_event, IsRangedCall}
use Rattle.bench.proofs.Calls.{polite_says, CommitsNone, told_made, told_none}
use Rattle.node_turns.proofs.Calls.{IsCallOf, IsToldBy, MayRefuse, MaySay}

-- == what a call changes ==

module _ {K S R : Type 0} (n : Ghosts K S (Unit {0}) Row R) (b : Books) (sound : AreSound b) (s : n.Seen) (from : (x : Row) → AreSound (put_row b x) → n.IsFrom tt s x) where
  sound_acts : SoundActs b
  sound_acts = leaves b sound

  by : {A : Type 0} (act : CentreAct A) → LeavesSound b act → IsFitting n tt s act
  by act left = of_commit _ _ act left (λ c x leaves. from x leaves.0)

  -- it leaves sound rows
  pub call_fits : (c : CentreCall) → IsRangedCall c → IsBytesCall c → IsFitting n tt s (centre_act c b)
  call_fits (call.Register c) ranged bytes = commit_says _ _ _ (acts.register_act c.device c.origin c.key b) (by (acts.register_act c.device c.origin c.key b) (sound_acts.registered c.device c.origin c.key ranged.0 ranged.1))
  call_fits (call.Open c) ranged bytes = commit_says _ _ _ (acts.open_act c.customer b) (by (acts.open_act c.customer b) (sound_acts.opened c.customer ranged))
  call_fits (call.Deposit c) ranged bytes = commit_says _ _ _ (acts.deposit_act c.customer c.receipt c.amount b) (by (acts.deposit_act c.customer c.receipt c.amount b) (sound_acts.deposited c.customer c.receipt c.amount))
  call_fits (call.Flag c) ranged bytes = commit_says _ _ _ (acts.flag_act c.customer c.suspended b) (by (acts.flag_act c.customer c.suspended b) (sound_acts.flagged c.customer c.suspended))
  call_fits (call.Balance c) ranged bytes = commit_says _ _ _ (acts.balance_act c.customer b) (by (acts.balance_act c.customer b) (sound_acts.balanced c.customer))
  call_fits (call.Take c) ranged bytes = commit_says _ _ _ (acts.take_act c.bytes b) (by (acts.take_act c.bytes b) (sound_acts.taken c.bytes bytes))

-- == the node of each commit ==

call_own : (c : CentreCall) (b : Books) → IsOfNode Centre (centre_act c b)
call_own (call.Register c) b = commit_says _ _ _ (acts.register_act c.device c.origin c.key b) (register_own c.device c.origin c.key (device_at b c.device))
call_own (call.Open c) b = commit_says _ _ _ (acts.open_act c.customer b) (open_own c.customer (customer_at b c.customer))
call_own (call.Deposit c) b = commit_says _ _ _ (acts.deposit_act c.customer c.receipt c.amount b) (deposit_own c.customer c.receipt c.amount (customer_at b c.customer))
call_own (call.Flag c) b = commit_says _ _ _ (acts.flag_act c.customer c.suspended b) (flag_own c.customer c.suspended (customer_at b c.customer))
call_own (call.Balance c) b = commit_says _ _ _ (acts.balance_act c.customer b) (left_own c.customer (left_in b c.customer) (customer_at b c.customer))
call_own (call.Take c) b = commit_says _ _ _ (acts.take_act c.bytes b) (take_own c.bytes (in_books b) (read c.bytes))

-- == how they are reported ==

pub call_of : (c : CentreCall) → IsCallOf Centre (centre_call_event c)
call_of (call.Register c) = record { on = refl; at = refl; no_switch = λ e. cc; no_cut = λ calls keep byte e. cc }
call_of (call.Open c) = record { on = refl; at = refl; no_switch = λ e. cc; no_cut = λ calls keep byte e. cc }
call_of (call.Deposit c) = record { on = refl; at = refl; no_switch = λ e. cc; no_cut = λ calls keep byte e. cc }
call_of (call.Flag c) = record { on = refl; at = refl; no_switch = λ e. cc; no_cut = λ calls keep byte e. cc }
call_of (call.Balance c) = record { on = refl; at = refl; no_switch = λ e. cc; no_cut = λ calls keep byte e. cc }
call_of (call.Take c) = record { on = refl; at = refl; no_switch = λ e. cc; no_cut = λ calls keep byte e. cc }

no_off : (c : CentreCall) → centre_call_event c ≢ ev.Off Centre
no_off (call.Register c) = λ e. cc
no_off (call.Open c) = λ e. cc
no_off (call.Deposit c) = λ e. cc
no_off (call.Flag c) = λ e. cc
no_off (call.Balance c) = λ e. cc
no_off (call.Take c) = λ e. cc

refused : (c : CentreCall) (x : CentreRefusal) → MayRefuse Centre (centre_call_event c) (r.CentreRefused x)
refused c x = record {
  told = refl;
  on_day = λ e. cc;
  not_off = λ e. cc;
  gets = inl (record { on = (call_of c).on; at = (call_of c).at; no_switch = no_off c });
}

took_said : (k : ℕ) (bytes : List ℕ) (a : CentreAnswer) → MaySay (ev.Give Centre bytes) (told_taken k a)
took_said k bytes (answer.Ruled d n v note again) = record { told = refl; gets = inr (bytes, refl); adds = λ made none. (note, (made, none, refl)) }
took_said k bytes (answer.Settled d n again) = record { told = refl; gets = inr (bytes, refl); adds = λ made none. (made, none, refl) }

balance_free : (w left : ℕ) (o : Option CustomerRow) → CommitsNone (left_act w left o)
balance_free w left None = tt
balance_free w left (Some x) = tt

pub call_told : (c : CentreCall) (b : Books) → IsToldBy Centre (centre_call_event c) (centre_act c b)
call_told (call.Register c) b = told_made Centre _ refl (omega arith) _ (call_own (call.Register c) b)
    (polite_says Centre (ev.Register c.device c.origin c.key) r.CentreRefused (told_registered c.device) (refused (call.Register c)) (λ u. record { told = refl; gets = (c.origin, c.key, refl); adds = λ made none. (made, none, refl) }) (acts.register_act c.device c.origin c.key b))
call_told (call.Open c) b = told_made Centre _ refl (omega arith) _ (call_own (call.Open c) b)
    (polite_says Centre (ev.OpenCustomer c.customer) r.CentreRefused (told_opened c.customer) (refused (call.Open c)) (λ u. record { told = refl; gets = refl; adds = λ made none. (made, none, refl) }) (acts.open_act c.customer b))
call_told (call.Deposit c) b = told_made Centre _ refl (omega arith) _ (call_own (call.Deposit c) b)
    (polite_says Centre (ev.Deposit c.customer c.receipt c.amount) r.CentreRefused (told_deposited c.customer c.receipt) (refused (call.Deposit c)) (λ done. record { told = refl; gets = (c.amount, refl); adds = λ made none. (made, none, refl) }) (acts.deposit_act c.customer c.receipt c.amount b))
call_told (call.Flag c) b = told_made Centre _ refl (omega arith) _ (call_own (call.Flag c) b)
    (polite_says Centre (ev.Flag c.customer c.suspended) r.CentreRefused (told_flagged c.customer c.suspended) (refused (call.Flag c)) (λ u. record { told = refl; gets = refl; adds = λ made none. (made, none, refl) }) (acts.flag_act c.customer c.suspended b))
call_told (call.Balance c) b = told_none Centre _ _ (commit_says _ _ _ (acts.balance_act c.customer b) (balance_free c.customer (left_in b c.customer) (customer_at b c.customer)))
    (polite_says Centre (ev.Balance c.customer) r.CentreRefused (told_balance c.customer) (refused (call.Balance c)) (λ left. record { told = refl; gets = refl; adds = λ made none. (made, none, refl) }) (acts.balance_act c.customer b))
call_told (call.Take c) b = told_made Centre _ refl (omega arith) _ (call_own (call.Take c) b)
    (polite_says Centre (ev.Give Centre c.bytes) r.CentreRefused (told_taken c.message) (refused (call.Take c)) (took_said c.message c.bytes) (acts.take_act c.bytes b))
