-- The message that an event sends is the one among its entries.
use Rattle.std.proofs.Common.{◌≡◌, inl, inr, ℕ, List, [], ◌∷◌, ◌++◌, Option, Some, None, false, true≢false, refl, sym, ◌∙◌, ap, arith}
use Rattle.bench_base.specs.declared.{words.Node.Node, words.Node.TheVariants.Device, words.Node.TheVariants.Centre, ledger.Commit.Commit, ledger.Entry.Entry, events.Event.Event, events.Reply.Reply, questions.Report.Report}
use Rattle.bench_base.specs.declared.ledger.Entry.TheVariants as entry
use Rattle.bench_base.specs.declared.events.Event.TheVariants as ev
use Rattle.bench_base.specs.declared.events.Reply.TheVariants as r
use Rattle.bench_base.specs.declared.questions.Report.TheVariants as report
use Rattle.bench_base.specs.Ledger.{Ledger}
use Rattle.bench_base.specs.Replies.{ReplyClass, Did, Refused, Armed, CameOn, WentOff, LostPower, Faulted, WasDamaged, PrinterFailed, RatesFailed, class_of, report_of, MayGet, Hands}
use Rattle.node_acts.specs.Plans.{with_commit}
use Rattle.node_turns.specs.declared.turn.Turn.{Turn}
use Rattle.node_turns.specs.Adds.{Adds, AddsTold, AddsDone, LeavesOpen, is_message, names_message}
use Rattle.node_turns.specs.Turns.{in_order}
use Rattle.node_turns.specs.Turns as turns
use Rattle.bench_abstraction.specs.Messages.{sent_in, SendsNone, IsFew}
use Rattle.bench.specs.Steps.{notes_of, notes_in}
use Rattle.bench_abstraction.proofs.Sent.{sends_none as none_sent}

-- an entry that sends nothing is passed over
passed : (x : Entry) (T : List Entry) (rest : List (Option Entry)) → SendsNone (x ∷ T) → turns.sent_in (Some x ∷ rest) ≡ turns.sent_in rest
passed (entry.Sent note) T rest none = absurd none
passed _ T rest none = refl

-- of the newest entry, where none before it sends
newest : (y : Entry) (T : List Entry) (rest : List (Option Entry)) → SendsNone T → turns.sent_in rest ≡ None → notes_of (turns.sent_in (Some y ∷ rest)) ≡ sent_in (y ∷ T)
newest (entry.Sent note) T rest none empty = ap (λ (l : List (List ℕ)). l ++ note ∷ []) (sym (none_sent T none))
newest entry.Begin T rest none empty = ap notes_of empty
newest _ T rest none empty = ap notes_of empty ∙ sym (none_sent T none)

tail_none : (x : Entry) (T : List Entry) → SendsNone (x ∷ T) → SendsNone T
tail_none (entry.Sent note) T none = absurd none
tail_none _ T none = none

pub few_notes : (T : Ledger) → IsFew T → notes_in (in_order T) ≡ sent_in T
few_notes [] few = refl
few_notes (x ∷ []) few = newest x [] (None ∷ None ∷ []) tt refl
few_notes (y ∷ x ∷ []) few = ap notes_of (passed x [] (Some y ∷ None ∷ []) few.1) ∙ newest y (x ∷ []) (None ∷ []) few.1 refl
few_notes (z ∷ y ∷ x ∷ []) few =
    ap notes_of (passed x [] (Some y ∷ Some z ∷ []) (tail_none y (x ∷ []) few.1) ∙ passed y (x ∷ []) (Some z ∷ []) few.1) ∙ newest z (y ∷ x ∷ []) [] few.1 refl
few_notes (z ∷ y ∷ x ∷ w ∷ more) few = absurd (omega (arith, few.0))

-- == by what a reply alone says ==

-- beside a commit, an event reports nothing, a mark, or a mark for the printer: none of them is a message
none_beside : (made : Option Commit) → notes_in (in_order ([] ++ with_commit made [])) ≡ []
none_beside None = refl
none_beside (Some c) = refl

none_marked : (d piece : ℕ) (mark : List ℕ) (made : Option Commit) → notes_in (in_order ((entry.Released d piece mark ∷ []) ++ with_commit made [])) ≡ []
none_marked d piece mark None = refl
none_marked d piece mark (Some c) = refl

none_printed : (job : ℕ) (mark : List ℕ) (made : Option Commit) → notes_in (in_order ((entry.Printed job mark ∷ []) ++ with_commit made [])) ≡ []
none_printed job mark None = refl
none_printed job mark (Some c) = refl

done_sends : (e : Event) (x : Report) (entries : List (Option Entry)) → AddsDone e x entries → is_message x ≡ false → notes_in entries ≡ []
done_sends e (report.Day t) entries adds none = ap notes_in adds
done_sends e report.Rates entries adds none = ap notes_in adds.1
done_sends e (report.Mark d piece again mark) entries adds none = ap notes_in adds.2 ∙ none_marked d piece mark adds.0
done_sends e (report.Release d piece again k) entries adds none = absurd (true≢false none)
done_sends e (report.Message k) entries adds none = absurd (true≢false none)
done_sends e (report.Debit job k) entries adds none = absurd (true≢false none)
done_sends e (report.Ruling verdict k) entries adds none = absurd (true≢false none)
done_sends e (report.Print job) entries adds none = ap notes_in adds.1.2 ∙ none_printed job adds.0 adds.1.0
done_sends e _ entries adds none = ap notes_in adds.2 ∙ none_beside adds.0

open_sends : (e : Event) (m : Node) (entries : List (Option Entry)) → LeavesOpen e m entries → notes_in entries ≡ []
open_sends e m entries (inl is) = ap notes_in is
open_sends e m entries (inr torn) = ap notes_in torn.2

told_sends : (e : Event) (reply : Reply) (t : ReplyClass) (entries : List (Option Entry)) → AddsTold e reply t entries → names_message reply ≡ false → notes_in entries ≡ []
told_sends e reply Did entries adds none = done_sends e (report_of reply) entries adds none
told_sends e reply Refused entries adds none = ap notes_in adds
told_sends e reply (Armed m) entries adds none = ap notes_in adds
told_sends e reply (CameOn m k) entries adds none = ap notes_in adds
told_sends e reply (WentOff m) entries adds none = ap notes_in adds
told_sends e reply (LostPower m) entries adds none = open_sends e m entries adds
told_sends e reply (Faulted m) entries adds none = open_sends e m entries adds
told_sends e reply (WasDamaged m) entries adds none = ap notes_in adds
told_sends e reply (PrinterFailed j) entries adds none = ap notes_in adds.2 ∙ none_beside adds.0
told_sends e reply RatesFailed entries adds none = ap notes_in adds

-- a reply that names no message sends none
pub sends_none : (e : Event) (turn : Turn) → Adds e turn.reply turn.entries → names_message turn.reply ≡ false → notes_in turn.entries ≡ []
sends_none e turn adds none = told_sends e turn.reply (class_of turn.reply) turn.entries adds none

-- of the replies that a scan of bytes may get none names a message
pub scan_names : (n : ℕ) (bytes : List ℕ) (reply : Reply) → MayGet (ev.ScanHex n bytes) reply → names_message reply ≡ false
scan_names n bytes (r.SentRequest d number message) (inl asked) = let wrong = asked.3 in cc
scan_names n bytes (r.SentRequest d number message) (inr resent) = cc
scan_names n bytes (r.SentDone d number message) may = cc
scan_names n bytes (r.Ruled d number verdict again message) may = absurd (not_handed may)
  where
    not_handed : Hands (ev.ScanHex n bytes) Centre → ⊥
    not_handed (inl delivered) = let wrong = delivered.1 in cc
    not_handed (inr given) = let wrong = given.1 in cc
scan_names n bytes (r.Released d piece again message) may = absurd (not_handed may)
  where
    not_handed : Hands (ev.ScanHex n bytes) (Device d) → ⊥
    not_handed (inl delivered) = let wrong = delivered.1 in cc
    not_handed (inr given) = let wrong = given.1 in cc
scan_names n bytes (r.SentDebit job message) may = cc
scan_names n bytes _ may = refl
