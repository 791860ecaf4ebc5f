-- What is debited after an event, by what the auditor has of the device that it was for.
use Rattle.std.proofs.Common.{◌≡◌, ◌≢◌, ◌⊎◌, inl, inr, ℕ, ℤ, ◌+◌, ◌<◌, List, length, Option, Some, None, Result, Ok, Err, refl, sym, ◌∙◌, ap, subst, ⊎_elim, arith}
use Rattle.std.specs.Prelude.{◌↔◌, ◌-◌, ◌≤◌, get_or, slice_get}
use Rattle.std.proofs.lemmas.Bool.{cases_eq}
use Rattle.std.proofs.lemmas.Option.{same_Some, slice_get_cases, slice_get_within}
use Rattle.bench_base.specs.declared.{events.Reply.Reply, events.Event.Event}
use Rattle.bench_base.specs.Ranges.{IsDevice}
use Rattle.bench_base.specs.Ledger.{Ledger, counted}
use Rattle.bench_base.specs.Rules.{todays_rules, editions}
use Rattle.node_acts.specs.declared.asked.Asked.{Asked}
use Rattle.node_acts.specs.Views.{View}
use Rattle.psd_state.specs.Seen as device_seen
use Rattle.psd_state.specs.State.{State, mark_in}
use Rattle.ledger_moves.specs.Devices.{record_in}
use Rattle.ledger_moves.specs.Histories.{History, Unforged}
use Rattle.ledger_moves.specs.Moves.{Moves, entries}
use Rattle.ledger_moves.specs.Tariffs.{Tariff}
use Rattle.debit_laws.specs.Debits.{IsDebited, IsLast, DebitsMore}
use Rattle.bench_abstraction.specs.declared.calls.DeviceCall.{DeviceCall}
use Rattle.node_turns.specs.declared.turn.Turn.{Turn}
use Rattle.trace_nodes.specs.declared.traced.Traced.{Traced}
use Rattle.trace_device.specs.declared.record.DeviceRecord.{DeviceRecord}
use Rattle.trace_bench.specs.declared.{noting.Noted.Noted, judging.Heard.Heard, judging.Finding.Finding}
use Rattle.trace_bench.specs.Debits.{IsLastOf, OthersAlike, OthersRest}
use Rattle.trace_bench.specs.Placed.{DeviceJudged}
use Rattle.trace_bench.specs.Plainly.{heard_of_node}
use Rattle.trace_bench.specs.Judging.{ledger_with, text_with}
use Rattle.trace_bench.specs.Seeing.{Audit, SeesRun, sending}
use Rattle.trace_bench.proofs.Keeping.{DebitsAlso}
use Rattle.trace_bench.proofs.Seen.{set_other}
use Rattle.trace_bench.proofs.Sent.{DebitsHeard}

-- no device was changed
pub none_changed : {T : Type 0} (result : Result (Heard T) Finding) (devices : List (Traced DeviceRecord State)) → OthersRest result devices devices
none_changed (Ok heard) devices = λ i s at other. at
none_changed (Err finding) devices = tt

-- nor was another than this one, in its place
pub other_places : {T : Type 0} {IsOf : Noted T → Turn → Type 0} (d : ℕ) {today : ℤ} {asked : Asked DeviceCall} {line : List ℕ} {old new : List (Traced DeviceRecord State)} {judged : Result (Noted T) Reply} → DeviceJudged IsOf d today asked line old new judged
    → OthersRest (heard_of_node (Some d) judged) old new
other_places d {judged = Ok noted} of = λ i s at other.
    let differs : i ≢ of.place = λ same. other (ap (λ (k : ℕ). Some k) (of.is_device ∙ ap (λ (k : ℕ). k + 1) (sym same))) in
    sym (set_other _ of.place of.now i differs) ∙ subst (λ (l : List (Traced DeviceRecord State)). slice_get l i ≡ Some s) of.set at
other_places d {judged = Err due} of = tt

-- the place of a device among eight
place_at : {S : Type 0} (xs : List S) (d : ℕ) → length xs ≡ 8 → IsDevice d → (i : ℕ) × (s : S) × (d ≡ i + 1) × (slice_get xs i ≡ Some s)
place_at {S} xs d eight range = by (slice_get_cases xs (d - 1)).1
  where
    by : ((x : S) × (d - 1 < length xs) × (slice_get xs (d - 1) ≡ Some x) × (get_or xs (d - 1) x ≡ x)) ⊎ ((length xs ≤ d - 1) × (slice_get xs (d - 1) ≡ None)) → (i : ℕ) × (s : S) × (d ≡ i + 1) × (slice_get xs i ≡ Some s)
    by (inl w) = (d - 1, w.0, omega (arith, range.0), w.2)
    by (inr w) = absurd (omega (arith, eight, range.0, range.1, w.0))

-- the mark that a device keeps, by what the auditor has of it, is the one by the ledger
kept_by : (a : Audit) (H : Ledger) → SeesRun a H → (i : ℕ) (s : Traced DeviceRecord State) → slice_get a.devices i ≡ Some s → mark_in s.record.state ≡ mark_in (record_in (i + 1) (counted H))
kept_by a H sees i s at = ap (λ (v : View device_seen.Seen). mark_in v.state.state) (sees.devices i s at)

module _ (old new : Audit) (H L : Ledger) (device : Option ℕ) (was : SeesRun old H) (sees : SeesRun new L) (others : OthersAlike device old.devices new.devices) (eight : length new.devices ≡ 8)
    (more : DebitsMore H L) (kept : (mark : List ℕ) → IsLast mark (counted H) → IsDebited mark (counted H)) where
  -- the mark that device i + 1 keeps: it is the one that the event was for, or it kept this mark before
  at_place : (mark : List ℕ) (i : ℕ) (s : Traced DeviceRecord State) → slice_get new.devices i ≡ Some s → IsDevice (i + 1) → mark_in s.record.state ≡ Some mark
      → (o : Option ℕ) → device ≡ o → IsDebited mark (counted H) ⊎ IsLastOf o new.devices mark
  at_place mark i s at range last None is =
      let before = others i s at (λ same. let wrong : None ≡ Some (i + 1) = sym is ∙ same in cc) in
      inl (kept mark (i + 1, range, sym (kept_by old H was i s before) ∙ last))
  at_place mark i s at range last (Some d) is = ⊎_elim
      (λ (same : d ≡ i + 1). inr (i, s, same, at, last))
      (λ (differs : d ≢ i + 1).
      let before = others i s at (λ same. differs (same_Some _ _ (sym is ∙ same))) in
      inl (kept mark (i + 1, range, sym (kept_by old H was i s before) ∙ last)))
      (cases_eq d (i + 1))

  found : (mark : List ℕ) → IsLast mark (counted L) → IsDebited mark (counted H) ⊎ IsLastOf device new.devices mark
  found mark last =
      let w = place_at new.devices last.0 eight last.1 in
      let is : mark_in w.1.record.state ≡ Some mark = kept_by new L sees w.0 w.1 w.3 ∙ ap (λ (d : ℕ). mark_in (record_in d (counted L))) (sym w.2) ∙ last.2 in
      at_place mark w.0 w.1 w.3 (subst IsDevice w.2 last.1) is device refl

  shown : (mark : List ℕ) (o : Option ℕ) → IsLastOf o new.devices mark → IsLast mark (counted L)
  shown mark None wrong = absurd wrong
  shown mark (Some d) last =
      let within : last.0 < 8 = subst (λ (n : ℕ). last.0 < n) eight (slice_get_within new.devices last.0 last.1 last.3) in
      (last.0 + 1, (omega (arith, within), omega (arith, within)), sym (kept_by new L sees last.0 last.1 last.3) ∙ last.4)

  pub debits_also : DebitsAlso (λ mark. IsLastOf device new.devices mark) H L
  debits_also mark = (
    λ is. elim ((more mark).0 is) [ inl before ↦ inl before | inr last ↦ found mark last ],
    λ either. (more mark).1 (elim either [ inl before ↦ inl before | inr last ↦ inr (shown mark device last) ]),
  )

-- == by the laws of debits ==

-- what more is debited after an event
abbrev pub LawMore : Type 0
LawMore = (τ : Tariff) (H : Ledger) (x : Event) (text : List ℕ) (reply : Reply) → History τ editions H → Unforged x H → Moves τ todays_rules H x text reply
    → DebitsMore H (entries τ todays_rules H x text reply)

abbrev pub LawKept : Type 0
LawKept = (τ : Tariff) (H : Ledger) (mark : List ℕ) → History τ editions H → IsLast mark (counted H) → IsDebited mark (counted H)

pub debits_heard : {T : Type 0} (IsOf : T → Turn → Type 0) (τ : Tariff) (H : Ledger) (e : Event) (left line : List ℕ) → History τ editions H → Unforged e H → LawMore → LawKept → (heard : Heard T) (old now : Audit) → SeesRun old H → length now.devices ≡ 8
    → OthersRest (Ok heard) old.devices now.devices → DebitsHeard IsOf τ H e left line heard now
debits_heard IsOf τ H e left line history unforged law kept heard old now was eight others reply moves sees =
    debits_also old (sending heard.sent now) H (ledger_with τ H e left line reply) heard.device was sees others eight
    (law τ H e (text_with τ H e left line reply) reply history unforged moves) (λ mark. kept τ H mark history)

-- == what is told of the marks that were seen ==

-- the mark that is read of a device in its place is the one that this device keeps
pub last_alike : (devices : List (Traced DeviceRecord State)) (d : ℕ) (s : Traced DeviceRecord State) → slice_get devices (d - 1) ≡ Some s → d ≡ d - 1 + 1 → (kept : Option (List ℕ)) → kept ≡ mark_in s.record.state
    → (q : List ℕ) → (kept ≡ Some q) ↔ IsLastOf (Some d) devices q
last_alike devices d s at named kept is q = (
  λ same. (d - 1, s, named, at, sym is ∙ same),
  λ last.
      let place : d - 1 ≡ last.0 = omega (arith, last.2) in
      is ∙ ap (λ (t : Traced DeviceRecord State). mark_in t.record.state) (same_Some _ _ (sym at ∙ ap (λ (i : ℕ). slice_get devices i) place ∙ last.3)) ∙ last.4,
)
