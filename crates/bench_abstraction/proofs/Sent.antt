-- The messages of a run by the ledger: the list of them, and what an event adds to it.
use Rattle.std.proofs.Common.{◌≡◌, ◌≢◌, inl, inr, ℕ, zero, suc, ◌+◌, Bool, List, [], ◌∷◌, ◌++◌, length, Option, Some, None, if◌then◌else◌, refl, sym, ◌∙◌, ap, append-nil, arith}
use Rattle.std.specs.Prelude.{slice_get}
use Rattle.std.proofs.lemmas.Bool.{cases_eq, eq-eqb, ne_eqb}
use Rattle.std.proofs.lemmas.List.{append_assoc, length_push}
use Rattle.bench_base.specs.declared.{ledger.Commit.Commit, ledger.Entry.Entry, words.Node.Node}
use Rattle.bench_base.specs.declared.ledger.Entry.TheVariants as entry
use Rattle.bench_base.specs.Plans.{Plan}
use Rattle.bench_base.specs.Replies.{ReplyClass, Did, Refused, Armed, CameOn, WentOff, LostPower, Faulted, WasDamaged, PrinterFailed, RatesFailed}
use Rattle.bench_base.specs.Ledger.{Ledger, messages, message}
use Rattle.node_acts.specs.Plans.{after_told, with_commit, with_torn}
use Rattle.bench_abstraction.specs.Messages.{sent_in, SendsNone}

-- there are as many as were sent
pub sent_many : (H : Ledger) → length (sent_in H) ≡ messages H
sent_many [] = refl
sent_many (entry.Sent bytes ∷ H) = length_push (sent_in H) bytes ∙ ap (λ (n : ℕ). n + 1) (sent_many H)
sent_many (entry.Begin ∷ H) = refl
sent_many (_ ∷ H) = sent_many H

get_end : (xs : List (List ℕ)) (x : List ℕ) → slice_get (xs ++ x ∷ []) (length xs) ≡ Some x
get_end [] x = refl
get_end (y ∷ xs) x = get_end xs x

get_before : (xs : List (List ℕ)) (x : List ℕ) (k : ℕ) → k ≢ length xs → slice_get (xs ++ x ∷ []) k ≡ slice_get xs k
get_before [] x zero differs = absurd (differs refl)
get_before [] x (suc k) differs = refl
get_before (y ∷ xs) x zero differs = refl
get_before (y ∷ xs) x (suc k) differs = get_before xs x k (λ is. differs (omega (arith, is)))

-- each message is at its number
pub sent_at : (H : Ledger) (k : ℕ) → slice_get (sent_in H) k ≡ message k H
sent_at [] k = refl
sent_at (entry.Sent bytes ∷ H) k = elim (cases_eq k (messages H)) [
  | inl is ↦
      ap (λ (n : ℕ). slice_get (sent_in H ++ bytes ∷ []) n) (is ∙ sym (sent_many H)) ∙ get_end (sent_in H) bytes
      ∙ sym (ap (λ (b : Bool). if b then Some bytes else message k H) (eq-eqb k (messages H) is))
  | inr differs ↦
      get_before (sent_in H) bytes k (λ is. differs (is ∙ sent_many H)) ∙ sent_at H k
      ∙ sym (ap (λ (b : Bool). if b then Some bytes else message k H) (ne_eqb k (messages H) differs))
]
sent_at (entry.Begin ∷ H) k = refl
sent_at (_ ∷ H) k = sent_at H k

-- == what an event adds ==

-- no new run begins in these entries
abbrev pub NoBegin : List Entry → Type 0
NoBegin [] = Unit {0}
NoBegin (entry.Begin ∷ T) = ⊥
NoBegin (_ ∷ T) = NoBegin T

pub sent_more : (T : List Entry) (H : Ledger) → NoBegin T → sent_in (T ++ H) ≡ sent_in H ++ sent_in T
sent_more [] H none = sym (append-nil (sent_in H))
sent_more (entry.Sent bytes ∷ T) H none = ap (λ (l : List (List ℕ)). l ++ bytes ∷ []) (sent_more T H none) ∙ append_assoc (sent_in H) (sent_in T) (bytes ∷ [])
sent_more (entry.Begin ∷ T) H none = absurd none
sent_more (_ ∷ T) H none = sent_more T H none

-- an event of a plan that begins no run adds what it sends
pub sent_after : (p : Plan) (t : ReplyClass) (H : Ledger) → NoBegin p.after → sent_in (after_told p t H) ≡ sent_in H ++ sent_in (after_told p t [])
sent_after p t H none = by t
  where
    commits : (o : Option Commit) (M : Ledger) → sent_in (with_commit o M) ≡ sent_in M
    commits None M = refl
    commits (Some c) M = refl

    torn : (o : Option Commit) (m : Node) (M : Ledger) → sent_in (with_torn o m M) ≡ sent_in M
    torn None m M = refl
    torn (Some c) m M = refl

    done : sent_in (p.after ++ with_commit p.commit H) ≡ sent_in H ++ sent_in (p.after ++ with_commit p.commit [])
    done =
        sent_more p.after (with_commit p.commit H) none ∙ ap (λ (l : List (List ℕ)). l ++ sent_in p.after) (commits p.commit H)
        ∙ ap (λ (l : List (List ℕ)). sent_in H ++ l) (sym (sent_more p.after (with_commit p.commit []) none ∙ ap (λ (l : List (List ℕ)). l ++ sent_in p.after) (commits p.commit [])))

    nothing : (M N : Ledger) → sent_in M ≡ sent_in H → sent_in N ≡ [] → sent_in M ≡ sent_in H ++ sent_in N
    nothing M N same empty = same ∙ sym (append-nil (sent_in H)) ∙ ap (λ (l : List (List ℕ)). sent_in H ++ l) (sym empty)

    by : (u : ReplyClass) → sent_in (after_told p u H) ≡ sent_in H ++ sent_in (after_told p u [])
    by Did = done
    by Refused = done
    by (Armed m) = done
    by (CameOn m k) = nothing (entry.Up m k ∷ H) (entry.Up m k ∷ []) refl refl
    by (WentOff m) = done
    by (LostPower m) = nothing (with_torn p.commit m H) (with_torn p.commit m []) (torn p.commit m H) (torn p.commit m [])
    by (Faulted m) = nothing (with_torn p.commit m H) (with_torn p.commit m []) (torn p.commit m H) (torn p.commit m [])
    by (WasDamaged m) = done
    by (PrinterFailed j) = nothing (with_commit p.commit H) (with_commit p.commit []) (commits p.commit H) (commits p.commit [])
    by RatesFailed = nothing H [] refl refl

-- entries that send nothing have no message among them
pub sends_none : (T : List Entry) → SendsNone T → sent_in T ≡ []
sends_none [] none = refl
sends_none (entry.Sent bytes ∷ T) none = absurd none
sends_none (entry.Begin ∷ T) none = refl
sends_none (_ ∷ T) none = sends_none T none
