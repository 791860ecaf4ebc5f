-- What it says that a scan was answered by an acceptance.
use Rattle.std.proofs.Common.{◌≡◌, ◌⊎◌, ℕ, ℤ, Bool, true, false, List, Option, Some, None, Result, Ok, Err, inl, inr, refl, sym, subst}
use Rattle.std.specs.Prelude.{◌==◌}
use Rattle.std.proofs.lemmas.Bool.{eqb-true, eq-eqb}
use Rattle.bench_base.specs.declared.{words.Node.TheVariants.Verifier, refusals.MarkFault.MarkFault, refusals.ScanRefusal.ScanRefusal, ledger.Commit.Commit, events.Event.Event, events.Reply.Reply}
use Rattle.bench_base.specs.declared.events.Event.TheVariants as ev
use Rattle.bench_base.specs.declared.events.Reply.TheVariants as r
use Rattle.bench_base.specs.Rules.{todays_rules}
use Rattle.bench_base.specs.Nodes.{node_of}
use Rattle.bench_base.specs.Plans.{Plan, refuse}
use Rattle.bench_base.specs.Cells.{is_worn}
use Rattle.bench_base.specs.Ledger.{Ledger, IsReleased, day_in, is_on, counted}
use Rattle.bench_base.specs.Scans.{trusted, accepted}
use Rattle.bench_base.specs.Questions.{IsAccepted}
use Rattle.node_acts.specs.Plans.{after, Fails}
use Rattle.node_acts.specs.Said.{said_plan}
use Rattle.indicium.specs.declared.Mark.{Mark}
use Rattle.indicium.specs.Marks.{read_mark}
use Rattle.psd_wire.specs.Codes.{has_code}
use Rattle.verifier.specs.declared.acts.Accepted.{Accepted}
use Rattle.verifier.specs.Answers.{scan_rows, scan_answer}
use Rattle.verifier.specs.Acts.{ScanAct, answered_act, marked_act, read_act}
use Rattle.verifier.specs.Plans as scans
use Rattle.ledger_moves.specs.Histories.{IsKnownMark}
use Rattle.ledger_moves.specs.Moves as moves
use Rattle.ledger_moves.specs.Moves.{Moves, plan, entries, at_node, unless_worn, OtherUp, FailsToRead}
use Rattle.ledger_moves.specs.Tariffs.{Tariff}
use Rattle.bench_base.proofs.Rows.{chosen, first}
use Rattle.scan_laws.specs.Acceptances.{Accepts}

module _ (n : ℕ) (bytes : List ℕ) (H : Ledger) where
  -- the plan's answer, if it is an acceptance, says so of the ledger after it
  abbrev Tells : Plan → Type 0
  Tells q = (d p m : ℕ) (again : Bool) → q.reply ≡ r.Accepted d p m again → Accepts n bytes H (after q q.reply H) d p m

  refuses : (x : Reply) → ((d p m : ℕ) (again : Bool) → x ≡ r.Accepted d p m again → ⊥) → Tells (refuse x)
  refuses x other d p m again is = absurd (other d p m again is)

  no_scan : (x : ScanRefusal) → Tells (refuse (r.ScanRefused x))
  no_scan x = refuses (r.ScanRefused x) (λ d p m again is. cc)

  at : (q : Plan) → Tells q → Tells (at_node Verifier H q)
  at q tells = chosen Tells (is_on Verifier H) (unless_worn (counted H) q q.commit) (refuse (r.OffNode Verifier)) (λ on. go q.commit) (λ off. refuses (r.OffNode Verifier) (λ d p m again is. cc))
    where
      go : (w : Option Commit) → Tells (unless_worn (counted H) q w)
      go None = tells
      go (Some c) = chosen Tells (is_worn c (counted H)) (refuse (r.Worn (node_of c))) q (λ worn. refuses (r.Worn (node_of c)) (λ d p m again is. cc)) (λ fresh. tells)

  -- the plan of the scan, by its act
  abbrev TellsBy : ScanAct Accepted → Type 0
  TellsBy act = Tells (said_plan (scans.says (scans.told_accepted n) act))

  module _ (k : Mark) (code : List ℕ) (reads : read_mark bytes ≡ Ok (k, code)) (known : IsKnownMark bytes (read_mark bytes) H → IsReleased bytes H) (cell : ℕ) where
    told_again : accepted k.device k.piece (counted H) ≡ Some n → TellsBy (answered_act n k cell (Ok true))
    told_again was d p m again is = record { mark = k; code = code; reads = reads; device = cc; piece = cc; number = cc; released = known; now = was }

    committed : accepted k.device k.piece (counted H) ≡ None → TellsBy (answered_act n k cell (Ok false))
    committed none d p m again is = record { mark = k; code = code; reads = reads; device = cc; piece = cc; number = cc; released = known; now = rw (eq-eqb k.device k.device refl, eq-eqb k.piece k.piece refl, none) refl }

    by_first : (today : ℤ) (full : Bool) (o : Option ℕ) → accepted k.device k.piece (counted H) ≡ o → TellsBy (answered_act n k cell (scan_answer n k.day today full o))
    by_first today full (Some s) was = chosen (λ (z : Result Bool ScanRefusal). TellsBy (answered_act n k cell z)) (s == n) (Ok true) _
        (λ same. told_again (subst (λ (j : ℕ). accepted k.device k.piece (counted H) ≡ Some j) (eqb-true s n same) was))
        (λ other. no_scan _)
    by_first today full None was = first (λ (z : Result Bool ScanRefusal). TellsBy (answered_act n k cell z)) (scan_rows k.day today full) (Ok false) (no_scan _, (no_scan _, (no_scan _, tt))) (λ rows. committed was)

  keyed : (today : ℤ) (k : Mark) (code : List ℕ) → read_mark bytes ≡ Ok (k, code) → (o : Option (List ℕ)) → trusted k.device (counted H) ≡ o → (cell : ℕ)
      → TellsBy (marked_act n bytes k today o (record { cell = cell; accepted = accepted k.device k.piece (counted H) }))
  keyed today k code reads None has cell = no_scan _
  keyed today k code reads (Some key) has cell = chosen TellsBy (has_code key bytes) _ _
      (λ good. by_first k code reads (λ known. let of : IsKnownMark bytes (Ok (k, code)) H = subst (λ (x : Result (Mark × List ℕ) MarkFault). IsKnownMark bytes x H) reads known in of key has good) cell today _ (accepted k.device k.piece (counted H)) refl)
      (λ bad. no_scan _)

  read_so : (today : ℤ) (x : Result (Mark × List ℕ) MarkFault) → read_mark bytes ≡ x → TellsBy (read_act n bytes today (scans.in_commits (counted H)) x)
  read_so today (Err fault) reads = no_scan _
  read_so today (Ok k) reads = keyed today k.0 k.1 reads (trusted k.0.device (counted H)) refl _

  dated : (τ : Tariff) (text : List ℕ) (day : Option ℤ) → Tells (moves.on_day (moves.plan_on τ todays_rules H (ev.ScanHex n bytes) text) day)
  dated τ text None = refuses r.NoDay (λ d p m again is. cc)
  dated τ text (Some today) = at _ (read_so today (read_mark bytes) refl)

  tells : (τ : Tariff) (text : List ℕ) → Tells (plan τ todays_rules H (ev.ScanHex n bytes) text)
  unfolding plan
  tells τ text = dated τ text (day_in H)

  pub by_move : (τ : Tariff) (text : List ℕ) (d p m : ℕ) (again : Bool) → Moves τ todays_rules H (ev.ScanHex n bytes) text (r.Accepted d p m again)
      → Accepts n bytes H (entries τ todays_rules H (ev.ScanHex n bytes) text (r.Accepted d p m again)) d p m
  by_move τ text d p m again moved = go moved.1
    where
      go : ((r.Accepted d p m again ≡ (plan τ todays_rules H (ev.ScanHex n bytes) text).reply)
          ⊎ (OtherUp (plan τ todays_rules H (ev.ScanHex n bytes) text).reply (r.Accepted d p m again) H
          ⊎ (Fails (plan τ todays_rules H (ev.ScanHex n bytes) text) (r.Accepted d p m again) ⊎ FailsToRead (ev.ScanHex n bytes) (r.Accepted d p m again) (day_in H)))) → Accepts n bytes H (entries τ todays_rules H (ev.ScanHex n bytes) text (r.Accepted d p m again)) d p m
      go (inl same) = subst (λ (x : Reply). Accepts n bytes H (after (plan τ todays_rules H (ev.ScanHex n bytes) text) x H) d p m) (sym same) (tells τ text d p m again (sym same))
      go (inr (inl up)) = absurd (let more = up.more in cc)
      go (inr (inr (inl fails))) = absurd fails
      go (inr (inr (inr unread))) = absurd (let is = unread.reply_is in cc)

-- THE SCAN WAS ANSWERED BY AN ACCEPTANCE: now or before, the piece of the mark was accepted under its number
pub accepts_now : (τ : Tariff) (H : Ledger) (x : Event) (text : List ℕ) (reply : Reply) (n : ℕ) (bytes : List ℕ) (d p m : ℕ) (again : Bool) → x ≡ ev.ScanHex n bytes → reply ≡ r.Accepted d p m again
    → Moves τ todays_rules H x text reply → Accepts n bytes H (entries τ todays_rules H x text reply) d p m
accepts_now τ H x text reply n bytes d p m again is told moved =
    subst (λ (e : Event). Accepts n bytes H (entries τ todays_rules H e text reply) d p m) (sym is)
    (subst (λ (a : Reply). Accepts n bytes H (entries τ todays_rules H (ev.ScanHex n bytes) text a) d p m) (sym told)
    (by_move n bytes H τ text d p m again
    (subst (λ (a : Reply). Moves τ todays_rules H (ev.ScanHex n bytes) text a) told (subst (λ (e : Event). Moves τ todays_rules H e text reply) is moved))))

-- a reply that is an acceptance
pub accepted_by : (r s : Reply) → r ≡ s → IsAccepted s → IsAccepted r
accepted_by r s same is = subst (λ (x : Reply). IsAccepted x) (sym same) is
