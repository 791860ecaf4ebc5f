-- Claims stay backed by the ledger, through each line of a run.
use Rattle.std.proofs.Common.{◌≡◌, ◌≢◌, ◌⊎◌, inl, inr, ℕ, ◌+◌, ◌-◌, ◌<◌, ◌≤◌, List, [], ◌∷◌, ◌++◌, length, Option, Some, None, Result, Ok, false, ◌==◌, refl, sym, ap, ◌∙◌, subst, arith, true≢false}
use Rattle.std.specs.List.{AllByRecursion}
use Rattle.std.proofs.lemmas.Bool.{cases_eq, cases_lt}
use Rattle.std.proofs.lemmas.Option.{same_Some}
use Rattle.bench_base.specs.declared.{events.Event.Event, ledger.Entry.TheVariants.Begin, refusals.MarkFault.MarkFault}
use Rattle.bench_base.specs.declared.events.Event.TheVariants as ev
use Rattle.bench_base.specs.Ledger.{Ledger, IsReleased, counted}
use Rattle.bench_base.specs.Replies.{class_of}
use Rattle.bench_base.specs.Rules.{todays_rules}
use Rattle.bench_base.specs.Scans.{accepted}
use Rattle.bench_base.specs.Questions.{IsAccepted}
use Rattle.bench_base.proofs.Facts.{some_none}
use Rattle.indicium.specs.declared.Mark.{Mark}
use Rattle.indicium.specs.Marks.{read_mark}
use Rattle.node_acts.specs.RowList.{row_of, put}
use Rattle.node_acts.specs.RowLaws.{put_long, put_other}
use Rattle.script_text.specs.Texts.{text_of}
use Rattle.line_runs.specs.Trace.{Reads}
use Rattle.line_extensions.specs.Trace.{StepRecord, Skipped, Did}
use Rattle.line_extensions.specs.Desks.{side_lines}
use Rattle.line_extensions.specs.Events.{IsLineOf}
use Rattle.line_extensions.specs.SideTrace.{SideStep, Plain, Own, Broken, steps_of}
use Rattle.ledger_moves.specs.Moves.{plan}
use Rattle.ledger_moves.specs.Tariffs.{Tariff}
use Rattle.scan_laws.specs.Acceptances.{EachAccepted, IsScanOf}
use Rattle.scan_laws.proofs.Entries.{accepted_kept, accepted_entry, released_kept, released_entry, each_of, of_each, begin_each, told_each}
use Rattle.scan_laws.proofs.Plans.{plan_brings}
use Rattle.run_laws.specs.Trace.{AllMoved}
use Rattle.run_laws.proofs.Going.{all_moved, first_moved, rest_moved, after_both, scanned as accepted_by_scan}
use Rattle.script_replay.specs.Trace.{ledger_by, ledger_after, RunWhile, AreUnforged}
use Rattle.script_replay.specs.Run.{Unforged, Moves}
use Rattle.spoil_claims.specs.Answers.{IsTold, IsCreditedNow, IsScanned, IsNewTold, IsClaimTold, IsAnswered, IsNewCut, IsClaimCut, IsCutShort, AreAnswered, IsCutCredit}
use Rattle.spoil_claims.specs.ClaimLines.{IsScan, IsClaimLine}
use Rattle.spoil_claims.specs.Claims.{Claims, IsHere, claim_at, kept, last_claim, mark_in, mark_of, scan_number}
use Rattle.spoil_claims.specs.ClaimsDesk.{by_keeper}
use Rattle.spoil_claims.specs.Moves.{Keeper, row_for, as_credited}
use Rattle.spoil_claims.specs.Holds.{IsCredited, IsClaimed, IsUsedUp, AreBacked}
use Rattle.spoil_claims.specs.declared.{claim.ClaimLine.ClaimLine, claim.ClaimLine.TheVariants.Claim, claim.ClaimLine.TheVariants.Credits, claim.ClaimLine.TheVariants.Reserved, claim.ClaimRow.ClaimRow}
use Rattle.spoil_claims.proofs.Keeping.{put_claim}
use Rattle.spoil_claims.proofs.Numbers.{either_any, inside, outside}
use Rattle.spoil_claims.proofs.Stopping.{IsCut, IsCutAfter}

abbrev Reserves : Claims → ℕ → ℕ → ℕ → Type 0
Reserves rows d p n = 3000000000 < n → IsClaimed rows d p n

weaker : (P Q : ℕ → ℕ → ℕ → Type 0) (H : Ledger) → ((d p n : ℕ) → P d p n → Q d p n) → EachAccepted P H → EachAccepted Q H
weaker P Q H more all = record { counts = λ d p n within. more d p n (all.counts d p n within); torn = λ m d p n is. more d p n (all.torn m d p n is) }

-- == a commit of a claim ==

module _ (rows : Claims) (x : ClaimRow) (lt : x.claim - 1 < length rows) where
  abbrev then : Claims
  then = put rows (x.claim - 1) x

  kept_here : (c : ℕ) → c - 1 ≡ x.claim - 1 → kept then c ≡ Some x
  kept_here c is = ap (λ (j : ℕ). claim_at then j) is ∙ put_claim rows (x.claim - 1) x lt

  kept_else : (c : ℕ) → c - 1 ≢ x.claim - 1 → kept then c ≡ kept rows c
  kept_else c differs = ap (λ o. row_of o) (put_other rows (x.claim - 1) x (c - 1) differs)

  still_here : (y : ClaimRow) → y.claim - 1 ≢ x.claim - 1 → IsHere rows y → IsHere then y
  still_here y differs is = record { first = is.first; here = kept_else y.claim differs ∙ is.here }

  still_claimed : (d p n : ℕ) → (of : IsClaimed rows d p n) → of.claim.claim - 1 ≢ x.claim - 1 → IsClaimed then d p n
  still_claimed d p n of differs = record { claim = of.claim; mark = of.mark; here = still_here of.claim differs of.here; reads = of.reads; device = of.device; piece = of.piece; number = of.number }

  still_credited : (H : Ledger) → AreBacked rows H → (c : ℕ) (y : ClaimRow) (k : Mark) → IsCredited then c y k → c - 1 ≢ x.claim - 1 → IsUsedUp c y k H
  still_credited H b c y k is differs = b.credited c y k (record { first = is.first; here = sym (kept_else c differs) ∙ is.here; credited = is.credited; reads = is.reads })

-- a claim is committed as open
opened : (rows : Claims) (x : ClaimRow) (H : Ledger) → kept rows x.claim ≡ None → x.credited ≡ false → x.claim - 1 < length rows → AreBacked rows H → AreBacked (put rows (x.claim - 1) x) H
opened rows x H none is_open lt b = record {
  reserved = weaker (Reserves rows) (Reserves (then rows x lt)) H
      (λ d p n is gt. let of = is gt in still_claimed rows x lt d p n of (λ same. some_none (sym of.here.here ∙ ap (λ (j : ℕ). claim_at rows j) same ∙ none))) b.reserved;
  credited = λ c y k is. elim (cases_eq (c - 1) (x.claim - 1)) [
    | inl same ↦ let row : x ≡ y = same_Some x y (sym (kept_here rows x lt c same) ∙ is.here) in absurd (true≢false (sym is.credited ∙ (ap (λ (z : ClaimRow). z.credited) (sym row) ∙ is_open)))
    | inr differs ↦ still_credited rows x lt H b c y k is differs
  ];
}

from_1 : (c e : ℕ) → 1 ≤ c → 1 ≤ e → c - 1 ≡ e - 1 → c ≡ e
from_1 c e first second same = omega (arith, first, second, same)

-- a claim with a piece that was used up is committed as credited
credited_now : (rows : Claims) (x : ClaimRow) (k : Mark) (H : Ledger) → IsHere rows x → mark_of x.mark ≡ Some k → IsUsedUp x.claim x k H → AreBacked rows H → AreBacked (put rows (x.claim - 1) (as_credited x)) H
credited_now rows x k H here reads used b =
    let lt = inside rows x here in
    let y = as_credited x in
    record {
      reserved = weaker (Reserves rows) (Reserves (put rows (x.claim - 1) y)) H (λ d p n is gt. by_cell d p n (is gt) (cases_eq (is gt).claim.claim x.claim)) b.reserved;
      credited = λ c z m is. elim (cases_eq (c - 1) (x.claim - 1)) [
        | inl same ↦ now c z m is same
        | inr differs ↦ still_credited rows y lt H b c z m is differs
      ];
    }
  where
    lt : x.claim - 1 < length rows
    lt = inside rows x here

    there : kept (put rows (x.claim - 1) (as_credited x)) x.claim ≡ Some (as_credited x)
    there = kept_here rows (as_credited x) lt x.claim refl

    by_cell : (d p n : ℕ) (of : IsClaimed rows d p n) → (of.claim.claim ≡ x.claim) ⊎ (of.claim.claim ≢ x.claim) → IsClaimed (put rows (x.claim - 1) (as_credited x)) d p n
    by_cell d p n of (inl same) =
        let row : of.claim ≡ x = same_Some of.claim x (sym of.here.here ∙ (ap (λ (j : ℕ). kept rows j) same ∙ here.here)) in
        record {
          claim = as_credited x;
          mark = of.mark;
          here = record { first = here.first; here = there };
          reads = ap (λ (z : ClaimRow). mark_of z.mark) (sym row) ∙ of.reads;
          device = of.device;
          piece = of.piece;
          number = of.number ∙ ap (λ (z : ClaimRow). scan_number z.claim) row;
        }
    by_cell d p n of (inr differs) = still_claimed rows (as_credited x) lt d p n of (λ same. differs (from_1 of.claim.claim x.claim of.here.first here.first same))

    now : (c : ℕ) (z : ClaimRow) (m : Mark) → IsCredited (put rows (x.claim - 1) (as_credited x)) c z m → c - 1 ≡ x.claim - 1 → IsUsedUp c z m H
    now c z m is same =
        let row : as_credited x ≡ z = same_Some (as_credited x) z (sym (kept_here rows (as_credited x) lt c same) ∙ is.here) in
        let mark : k ≡ m = same_Some k m (sym reads ∙ (ap (λ (y : ClaimRow). mark_of y.mark) row ∙ is.reads)) in
        let number : x.claim ≡ c = from_1 x.claim c here.first is.first (sym same) in
        record {
          released = subst (λ (y : ClaimRow). IsReleased y.mark H) row used.released;
          accepted = subst (λ (j : ℕ). accepted m.device m.piece (counted H) ≡ Some (scan_number j)) number
              (subst (λ (y : Mark). accepted y.device y.piece (counted H) ≡ Some (scan_number x.claim)) mark used.accepted);
        }

-- == an event ==

pub begun : (rows : Claims) (L : Ledger) → AreBacked rows L → AreBacked rows (Begin ∷ L)
begun rows L b = record {
  reserved = of_each (Reserves rows) (Begin ∷ L) (begin_each (Reserves rows) L (each_of (Reserves rows) L b.reserved));
  credited = λ c x k is. let was = b.credited c x k is in record { released = released_entry x.mark Begin L was.released; accepted = accepted_entry k.device k.piece (scan_number c) Begin L was.accepted };
}

module _ (τ : Tariff) where
  -- whatever reply it gets, where a scan above 3,000,000,000 is that of a claim
  moved : (rows : Claims) (H : Ledger) (d : StepRecord) → ((e p n : ℕ) → IsScanOf e p n d.event → Reserves rows e p n) → AreBacked rows H → AreBacked rows (ledger_by τ H d)
  moved rows H d may b = record {
    reserved = of_each (Reserves rows) (ledger_by τ H d)
        (told_each (Reserves rows) (plan τ todays_rules H d.event d.text) (class_of d.reply) H (plan_brings (Reserves rows) H τ d.event d.text may) (each_of (Reserves rows) H b.reserved));
    credited = λ c x k is.
        let was = b.credited c x k is in
        record {
          released = released_kept x.mark (plan τ todays_rules H d.event d.text) (class_of d.reply) H was.released;
          accepted = accepted_kept k.device k.piece (scan_number c) (plan τ todays_rules H d.event d.text) (class_of d.reply) H was.accepted;
        };
  }

  -- of a line that is left to the bench
  pub passed : (rows : Claims) (H : Ledger) (line : List ℕ) (d : StepRecord) → IsLineOf d.event line → ((own : ClaimLine) → IsClaimLine own line → ⊥) → AreBacked rows H → AreBacked rows (ledger_by τ H d)
  passed rows H line d is none b = moved rows H d (λ e p n scan gt. absurd (none Reserved (n, gt, by_event e p n scan))) b
    where
      by_event : (e p n : ℕ) → IsScanOf e p n d.event → IsScan n line
      by_event e p n (inl scan) = inl (scan.0, subst (λ (x : Event). IsLineOf x line) scan.1 is)
      by_event e p n (inr scan) = inr (scan.0, subst (λ (x : Event). IsLineOf x line) scan.1 is)

  read_as : (bytes : List ℕ) (k : Mark) (code : List ℕ) → read_mark bytes ≡ Ok (k, code) → mark_of bytes ≡ Some k
  read_as bytes k code reads = ap (λ (o : Result (Mark × List ℕ) MarkFault). mark_in o) reads

  same_number : (n m : ℕ) (a b : List ℕ) → ev.ScanHex n a ≡ ev.ScanHex m b → n ≡ m
  same_number n m a b is = cc

  same_bytes : (n m : ℕ) (a b : List ℕ) → ev.ScanHex n a ≡ ev.ScanHex m b → a ≡ b
  same_bytes n m a b is = cc

  no_message : (n m k : ℕ) (a : List ℕ) → ev.ScanHex n a ≡ ev.ScanMsg m k → ⊥
  no_message n m k a is = cc

  -- of the scan of a claim
  claim_scanned : (rows : Claims) (x : ClaimRow) (H : Ledger) (d : StepRecord) → IsHere rows x → d.event ≡ ev.ScanHex (scan_number x.claim) x.mark → AreBacked rows H → AreBacked rows (ledger_by τ H d)
  claim_scanned rows x H d here event b = moved rows H d may b
    where
      may : (e p n : ℕ) → IsScanOf e p n d.event → Reserves rows e p n
      may e p n (inl scan) gt = absurd (no_message (scan_number x.claim) n scan.0 x.mark (sym event ∙ scan.1))
      may e p n (inr scan) gt =
          let is = sym event ∙ scan.1 in
          record {
            claim = x;
            mark = scan.2.mark;
            here = here;
            reads = ap (λ (y : List ℕ). mark_of y) (same_bytes (scan_number x.claim) n x.mark scan.0 is) ∙ read_as scan.0 scan.2.mark scan.2.code scan.2.reads;
            device = scan.2.device;
            piece = scan.2.piece;
            number = sym (same_number (scan_number x.claim) n x.mark scan.0 is);
          }

  -- == an own line ==

  -- the piece of an accepted claim was used up
  used_up : (H : Ledger) (x : ClaimRow) (d : StepRecord) → d.event ≡ ev.ScanHex (scan_number x.claim) x.mark → IsAccepted d.reply → Unforged H d.event → Moves τ H d
      → (k : Mark) × (mark_of x.mark ≡ Some k) × IsUsedUp x.claim x k (ledger_by τ H d)
  used_up H x d event accepts unforged moves =
      let is = accepted_by_scan τ (scan_number x.claim) x.mark d event accepts H unforged moves in
      (is.mark, read_as x.mark is.mark is.code is.reads, record { released = is.released; accepted = is.accepted })

  module _ (rows : Claims) (H : Ledger) (b : AreBacked rows H) where
    nothing_done : (steps : List StepRecord) (after : Claims) → steps ≡ [] → after ≡ rows → AreBacked after (ledger_after τ H steps)
    nothing_done steps after none rests = subst (λ (r : Claims). AreBacked r (ledger_after τ H steps)) (sym rests) (subst (λ (s : List StepRecord). AreBacked rows (ledger_after τ H s)) (sym none) b)

    one_scan : (x : ClaimRow) (steps : List StepRecord) (d : StepRecord) → IsHere rows x → steps ≡ d ∷ [] → d.event ≡ ev.ScanHex (scan_number x.claim) x.mark → AreBacked rows (ledger_after τ H steps)
    one_scan x steps d here only event = subst (λ (s : List StepRecord). AreBacked rows (ledger_after τ H s)) (sym only) (claim_scanned rows x H d here event b)

    told : (text : List ℕ) (steps : List StepRecord) (texts : List (List ℕ)) (after : Claims) → IsTold text rows steps texts after → AreBacked after (ledger_after τ H steps)
    told text steps texts after is = nothing_done steps after is.none is.rests

    scanned : (x : ClaimRow) (steps : List StepRecord) (texts : List (List ℕ)) (after : Claims) → AllMoved τ H steps → IsScanned x rows steps texts after → AreBacked after (ledger_after τ H steps)
    scanned x steps texts after did is = by_reply is.did
      where
        after_scan : AreBacked rows (ledger_after τ H steps)
        after_scan = one_scan x steps is.scan is.claim is.only is.event

        by_reply : ((IsAccepted is.scan.reply × IsCreditedNow x rows texts after) ⊎ ((IsAccepted is.scan.reply → ⊥) × (texts ≡ text_of is.scan.reply ∷ []) × (after ≡ rows))) → AreBacked after (ledger_after τ H steps)
        by_reply (inl (accepts, inl worn)) = subst (λ (r : Claims). AreBacked r (ledger_after τ H steps)) (sym worn.2) after_scan
        by_reply (inl (accepts, inr now)) =
            let one : AllMoved τ H (is.scan ∷ []) = subst (λ (s : List StepRecord). AllMoved τ H s) is.only did in
            let used = used_up H x is.scan is.event accepts one.0 one.1 in
            subst (λ (r : Claims). AreBacked r (ledger_after τ H steps)) (sym now.2)
            (subst (λ (s : List StepRecord). AreBacked (put rows (x.claim - 1) (as_credited x)) (ledger_after τ H s)) (sym is.only)
            (credited_now rows x used.0 (ledger_by τ H is.scan) is.claim used.1 used.2 (claim_scanned rows x H is.scan is.claim is.event b)))
        by_reply (inr other) = subst (λ (r : Claims). AreBacked r (ledger_after τ H steps)) (sym other.2) after_scan

    new_inside : (x : ClaimRow) → IsHere (put rows (x.claim - 1) x) x → x.claim - 1 < length rows
    new_inside x here = subst (λ (l : ℕ). x.claim - 1 < l) (put_long rows (x.claim - 1) x) (inside (put rows (x.claim - 1) x) x here)

  module _ (rows : Claims) (H : Ledger) (b : AreBacked rows H) (steps : List StepRecord) (did : AllMoved τ H steps) (after : Claims) where
    claim_told : (texts : List (List ℕ)) (o : Option ClaimRow) (c w : ℕ) (mark : List ℕ) → kept rows c ≡ o → IsClaimTold o c w mark rows steps texts after → AreBacked after (ledger_after τ H steps)
    claim_told texts (Some x) c w mark is (inl known) = either_any x.credited (λ again. told rows H b _ steps texts after again.told) (λ scans. scanned rows H b x steps texts after did scans) known.1
    claim_told texts (Some x) c w mark is (inr other) = told rows H b _ steps texts after other.1
    claim_told texts None c w mark is answer =
        either_any (c == last_claim rows + 1)
        (λ next. either_any (c == 1025) (λ full. told rows H b _ steps texts after full) (λ new. by_commit new) next)
        (λ wrong. told rows H b _ steps texts after wrong) answer
      where
        by_commit : IsNewTold c w mark rows steps texts after → AreBacked after (ledger_after τ H steps)
        by_commit (inl worn) = told rows H b _ steps texts after worn.1
        by_commit (inr new) =
            let x = row_for c w mark in
            scanned (put rows (c - 1) x) H (opened rows x H is refl (new_inside rows H b x new.1.claim) b) x steps texts after did new.1

    claim_cut : (o : Option ClaimRow) (c w : ℕ) (mark : List ℕ) → kept rows c ≡ o → IsClaimCut o c w mark rows steps after → AreBacked after (ledger_after τ H steps)
    claim_cut (Some x) c w mark is cut =
        either_any x.credited (λ none. absurd none)
        (λ credit. subst (λ (r : Claims). AreBacked r (ledger_after τ H steps)) (sym credit.1) (one_scan rows H b x steps credit.0.scan credit.0.claim credit.0.only credit.0.event)) cut.1
    claim_cut None c w mark is cut =
        either_any (c == last_claim rows + 1) (λ next. either_any (c == 1025) (λ none. absurd none) (λ new. by_commit new) next) (λ none. absurd none) cut
      where
        by_commit : IsNewCut (row_for c w mark) rows steps after → AreBacked after (ledger_after τ H steps)
        by_commit (inl none) = nothing_done rows H b steps after none.0 none.1
        by_commit (inr (credit, now)) =
            let x = row_for c w mark in
            let here : IsHere (put rows (c - 1) x) x = subst (λ (r : Claims). IsHere r x) now credit.claim in
            let now_open : AreBacked (put rows (c - 1) x) H = opened rows x H is refl (new_inside rows H b x here) b in
            subst (λ (r : Claims). AreBacked r (ledger_after τ H steps)) (sym now) (one_scan (put rows (c - 1) x) H now_open x steps credit.scan here credit.only credit.event)

    pub own_told : (own : ClaimLine) (texts : List (List ℕ)) → IsAnswered own rows steps texts after → AreBacked after (ledger_after τ H steps)
    own_told (Claim c w mark) texts answer = claim_told texts (kept rows c) c w mark refl answer
    own_told (Credits w) texts answer = told rows H b _ steps texts after answer
    own_told Reserved texts answer = told rows H b _ steps texts after answer

    pub own_cut : (own : ClaimLine) → IsCutShort own rows steps after → AreBacked after (ledger_after τ H steps)
    own_cut (Claim c w mark) cut = claim_cut (kept rows c) c w mark refl cut
    own_cut (Credits w) cut = absurd cut
    own_cut Reserved cut = absurd cut

  -- == a commit that was torn ==

  torn_open : (rows : Claims) (x : ClaimRow) (H : Ledger) → kept rows x.claim ≡ None → x.credited ≡ false → AreBacked rows H → AreBacked (put rows (x.claim - 1) x) H
  torn_open rows x H none is_open b = elim (cases_lt (x.claim - 1) (length rows)) [
    | inl lt ↦ opened rows x H none is_open lt b
    | inr le ↦ subst (λ (r : Claims). AreBacked r H) (sym (outside rows x le)) b
  ]

  torn_credit : (rows : Claims) (y : ClaimRow) (H : Ledger) (steps : List StepRecord) → AllMoved τ H steps → IsCutCredit y rows steps → AreBacked rows (ledger_after τ H steps) → AreBacked (put rows (y.claim - 1) (as_credited y)) (ledger_after τ H steps)
  torn_credit rows y H steps did cut b =
      let one : AllMoved τ H (cut.scan ∷ []) = subst (λ (s : List StepRecord). AllMoved τ H s) cut.only did in
      let used = used_up H y cut.scan cut.event cut.accepted one.0 one.1 in
      let now : IsUsedUp y.claim y used.0 (ledger_after τ H steps) = subst (λ (s : List StepRecord). IsUsedUp y.claim y used.0 (ledger_after τ H s)) (sym cut.only) used.2 in
      credited_now rows y used.0 (ledger_after τ H steps) cut.claim used.1 now b

  torn_by : (rows : Claims) (x : ClaimRow) (H : Ledger) (steps : List StepRecord) → AllMoved τ H steps → IsCut x rows steps → AreBacked rows (ledger_after τ H steps) → AreBacked (put rows (x.claim - 1) x) (ledger_after τ H steps)
  torn_by rows x H steps did (inl none) b = torn_open rows x (ledger_after τ H steps) none.0 none.1 b
  torn_by rows x H steps did (inr (y, is, cut)) b =
      subst (λ (z : ClaimRow). AreBacked (put rows (z.claim - 1) z) (ledger_after τ H steps)) (sym is) (torn_credit rows y H steps did cut b)

  -- the claims with a torn commit are backed too
  pub torn_backed : (rows : Claims) (x : ClaimRow) (H : Ledger) (all : List StepRecord) → AreUnforged τ Unforged H all → RunWhile τ Unforged (Moves τ) H all → IsCutAfter x rows all → AreBacked rows (ledger_after τ H all)
      → AreBacked (put rows (x.claim - 1) x) (ledger_after τ H all)
  torn_backed rows x H all unforged run (before, steps, are, cut) b =
      let did : AllMoved τ H (before ++ steps) = subst (λ (s : List StepRecord). AllMoved τ H s) are (all_moved τ H all unforged run) in
      let split : ledger_after τ (ledger_after τ H before) steps ≡ ledger_after τ H all = after_both τ H before steps ∙ ap (λ (s : List StepRecord). ledger_after τ H s) (sym are) in
      subst (λ (K : Ledger). AreBacked (put rows (x.claim - 1) x) K) split
      (torn_by rows x (ledger_after τ H before) steps (rest_moved τ H before steps did) cut (subst (λ (K : Ledger). AreBacked rows K) (sym split) b))

  -- == all lines ==

  module _ {S : Type 0} (f : Keeper S) where
    backed_all : (rows : Claims) (H : Ledger) (trace : List (SideStep ClaimLine)) (after : Claims) → AreBacked rows H → AllByRecursion (Reads (side_lines (by_keeper f))) trace → AreAnswered rows trace after
        → AllMoved τ H (steps_of trace) → AreBacked after (ledger_after τ H (steps_of trace))
    backed_all rows H [] after b reads answers did = subst (λ (r : Claims). AreBacked r H) (sym answers) b
    backed_all rows H (Plain (Skipped line) ∷ rest) after b reads answers did = backed_all rows H rest after b reads.1 answers did
    backed_all rows H (Plain (Did line d) ∷ rest) after b reads answers did =
        backed_all rows (ledger_by τ H d) rest after (passed rows H line d reads.0.is.0 answers.0 b) reads.1 answers.1 did.2
    backed_all rows H (Own line own steps texts ∷ rest) after b reads answers did =
        subst (λ (K : Ledger). AreBacked after K) (after_both τ H steps (steps_of rest))
        (backed_all answers.0 (ledger_after τ H steps) rest after (own_told rows H b steps (first_moved τ H steps (steps_of rest) did) answers.0 own texts answers.1) reads.1 answers.2 (rest_moved τ H steps (steps_of rest) did))
    backed_all rows H (Broken line own steps ∷ rest) after b reads answers did =
        subst (λ (K : Ledger). AreBacked after K) (after_both τ H steps (steps_of rest))
        (backed_all answers.0 (ledger_after τ H steps) rest after (own_cut rows H b steps (first_moved τ H steps (steps_of rest) did) answers.0 own answers.1) reads.1 answers.2 (rest_moved τ H steps (steps_of rest) did))

    -- WHAT WAS BACKED BEFORE A RUN IS BACKED AFTER IT
    pub backed_after : (L : Ledger) (rows after : Claims) (trace : List (SideStep ClaimLine)) → AreBacked rows L → AllByRecursion (Reads (side_lines (by_keeper f))) trace → AreAnswered rows trace after
        → AreUnforged τ Unforged (Begin ∷ L) (steps_of trace) → RunWhile τ Unforged (Moves τ) (Begin ∷ L) (steps_of trace) → AreBacked after (ledger_after τ (Begin ∷ L) (steps_of trace))
    backed_after L rows after trace b reads answers unforged run =
        backed_all rows (Begin ∷ L) trace after (begun rows L b) reads answers (all_moved τ (Begin ∷ L) (steps_of trace) unforged run)
