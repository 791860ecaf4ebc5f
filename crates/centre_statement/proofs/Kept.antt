-- What the desk keeps of the entries that it sees.
use Rattle.std.proofs.Common.{◌≡◌, ◌≢◌, ◌≤◌, ℕ, Bool, List, [], ◌∷◌, ◌++◌, length, Option, Some, None, refl, sym, ap, ap₂, subst, ◌∙◌, eqb}
use Rattle.std.proofs.lemmas.Bool.{ne_eqb, cond-false}
use Rattle.bench_base.specs.Ranges.{IsCustomer}
use Rattle.bench_base.specs.declared.ledger.Entry.{Entry}
use Rattle.statement_check.specs.declared.line.Movement.{Movement}
use Rattle.centre_statement.specs.Changes.{left_after}
use Rattle.centre_statement.specs.Desk.{Opened, View, open_in, listed_in, moved_by, noted_by, seen_entry, seen}
use Rattle.centre_statement.specs.Room.{HasRoom}
use Rattle.centre_statement.specs.declared.{change.Change.Change, answer.Answer.Answer, watch.Watch.Watch}
use Rattle.centre_statement.specs.declared.answer.Answer.TheVariants as answers

-- where a statement is open nothing is listed
pub lists_none : (w : ℕ) (s : Answer) (room : ℕ) (movements : List Movement) → HasRoom (Some w) s room → listed_in s movements ≡ []
lists_none w answers.Nothing room movements h = refl
lists_none w (answers.Opening x) room movements h = refl
lists_none w answers.Closing room movements h = refl
lists_none w (answers.Opened x b) room movements h = refl
lists_none w (answers.Closed b) room movements h = absurd h
lists_none w answers.NoneOpen room movements h = refl
lists_none w answers.Full room movements h = refl
lists_none w (answers.Balance reply) room movements h = refl

pub has_room : (w : ℕ) (s : Answer) (room : ℕ) → HasRoom (Some w) s room → IsCustomer w × (10000 ≤ room)
has_room w answers.Nothing room h = h
has_room w (answers.Opening x) room h = h
has_room w answers.Closing room h = h
has_room w (answers.Opened x b) room h = h
has_room w (answers.Closed b) room h = absurd h
has_room w answers.NoneOpen room h = h
has_room w answers.Full room h = h
has_room w (answers.Balance reply) room h = h

abbrev pub a_movement : Change → ℕ → Movement
a_movement x balance = record { cause = x.cause; amount = x.amount; balance = balance }

-- the movement of a change
abbrev pub movement_of : Change → ℕ → Movement
movement_of x before = a_movement x (left_after before x.cause x.amount)

-- a movement more, where there is room
pub moved_more : (x : Change) (s : Opened) → length s.movements ≢ 10000
    → moved_by x s ≡ record { customer = s.customer; balance = left_after s.balance x.cause x.amount; full = s.full; movements = s.movements ++ movement_of x s.balance ∷ [] }
moved_more x s other = cond-false (eqb (length s.movements) 10000) _ _ (ne_eqb (length s.movements) 10000 other)

pub said_kept : (v : View) (entries : List (Option Entry)) → (seen v entries).said ≡ v.said
said_kept v [] = refl
said_kept v (None ∷ rest) = said_kept v rest
said_kept v (Some e ∷ rest) = said_kept (seen_entry v (Some e)) rest

abbrev a_view : Watch → Option Opened → Answer → List Movement → View
a_view watch current s listed = record { watch = watch; current = current; said = s; listed = listed }

abbrev an_opened : ℕ → ℕ → Bool → List Movement → Opened
an_opened w balance full movements = record { customer = w; balance = balance; full = full; movements = movements }

-- a movement more is that of the statement that is open
pub added : (watch : Watch) (current : Option ℕ) (s : Answer) (w before after room : ℕ) (full : Bool) (ms now : List Movement) (x : Change) → current ≡ Some w → HasRoom current s room
    → after ≡ left_after before x.cause x.amount → length ms ≢ 10000 → now ≡ ms ++ a_movement x after ∷ []
    → a_view watch (open_in current after full now) s (listed_in s now) ≡ a_view watch (noted_by x (open_in current before full ms)) s (listed_in s ms)
added watch current s w before after room full ms now x is room_is left other pushed =
    let inside : HasRoom (Some w) s room = subst (λ (o : Option ℕ). HasRoom o s room) is room_is in
    let movement : now ≡ ms ++ movement_of x before ∷ [] = pushed ∙ ap (λ (b : ℕ). ms ++ a_movement x b ∷ []) left in
    let more : moved_by x (an_opened w before full ms) ≡ an_opened w (left_after before x.cause x.amount) full (ms ++ movement_of x before ∷ []) = moved_more x (an_opened w before full ms) other in
    let one : open_in current after full now ≡ Some (an_opened w after full now) = ap (λ (o : Option ℕ). open_in o after full now) is in
    let two : noted_by x (open_in current before full ms) ≡ Some (moved_by x (an_opened w before full ms)) = ap (λ (o : Option ℕ). noted_by x (open_in o before full ms)) is in
    let same : an_opened w after full now ≡ moved_by x (an_opened w before full ms) = ap₂ (λ (b : ℕ) (l : List Movement). an_opened w b full l) left movement ∙ sym more in
    ap₂ (λ (o : Option Opened) (l : List Movement). a_view watch o s l) (one ∙ ap (λ (o : Opened). Some o) same ∙ sym two) (lists_none w s room now inside ∙ sym (lists_none w s room ms inside))
