-- What is known of a Request that is taken.
use Rattle.std.proofs.Common.{◌≡◌, ℕ, ◌+◌, ◌≤◌, Bool, true, false, List, Ok, Err, cond, refl, length, lit≤, subst, arith}
use Rattle.std.specs.Prelude.{◌==◌, ◌||◌, nat_lt, bytes_eq}
use Rattle.std.proofs.lemmas.Bool.{leb-true, le-leb, ltb-false, eqb-false, or_parts}
use Rattle.std.proofs.lemmas.Bool.Decides.{Decides-and}
use Rattle.std.proofs.lemmas.Slice.Eq.{bytes_eq-Decides}
use Rattle.bench_base.specs.Table.{IsBytes, Four, Eight, room}
use Rattle.bench_base.specs.declared.refusals.CentreRefusal.TheVariants as no
use Rattle.psd_wire.specs.declared.message.Request.{Request}
use Rattle.psd_wire.specs.declared.message.Message.TheVariants as m
use Rattle.psd_wire.specs.Codes.{has_code}
use Rattle.psd_wire.specs.Grammar.{IsWhole, HasCode, read, spell, request_table}
use Rattle.psd_wire.proofs.Readings.{spell_back, length_request}
use Rattle.centre_ledger.specs.Answers.{turn_answer}

pub code_has : (key bytes : List ℕ) → has_code key bytes ≡ true → HasCode bytes key
unfolding has_code
code_has key bytes h = (Decides-and _ _ (leb-true 32 _, le-leb 32 _) (bytes_eq-Decides _ _)).0 h

-- one that is to be ruled has the next number
pub turn_next : (g : ℕ) (stored : List ℕ) (n : ℕ) (bytes : List ℕ) → turn_answer g stored n bytes ≡ Ok false → n ≡ g + 1
turn_next g stored n bytes h = go (nat_lt n g || (n == 0)) (n == g) (bytes_eq stored bytes) (nat_lt (g + 1) n) refl refl refl h
  where
    go : (a b c d : Bool) → (nat_lt n g || (n == 0)) ≡ a → (n == g) ≡ b → nat_lt (g + 1) n ≡ d
        → cond a (Err (no.Old g)) (cond b (cond c (Ok true) (Err (no.Changed g))) (cond d (Err (no.Ahead g)) (Ok false))) ≡ Ok false → n ≡ g + 1
    go true b c d e f k w = absurd (cc)
    go false true true d e f k w = absurd (cc)
    go false true false d e f k w = absurd (cc)
    go false false c true e f k w = absurd (cc)
    go false false c false e f k w =
        let least = ltb-false n g (or_parts (nat_lt n g) (n == 0) e).0 in
        let other = eqb-false n g f in
        let most = ltb-false (g + 1) n k in
        omega arith

-- what was read with a right code is a whole Request, spelled so
pub asked : (q : Request) (key bytes : List ℕ) → IsBytes bytes → read bytes ≡ Ok (m.Request q) → HasCode bytes key → IsWhole (m.Request q) × (spell (m.Request q) key ≡ bytes)
asked q key bytes b r c = spell_back (m.Request q) key bytes refl b r c

pub short : (q : Request) (key bytes : List ℕ) → IsWhole (m.Request q) → spell (m.Request q) key ≡ bytes → length bytes ≤ 87
short q key bytes whole spelled = subst (λ b. length b ≤ 87) spelled (rw (length_request q key whole) (go (q.version == 1)))
  where
    go : (b : Bool) → room (request_table (cond b Four Eight)) + 32 ≤ 87
    go true = lit≤ tt
    go false = lit≤ tt
