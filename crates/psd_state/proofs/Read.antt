-- What the readers of a payload find, and that they miss no record.
use Rattle.std.proofs.Common.{◌≡◌, ℕ, ◌+◌, ◌^◌, ◌<◌, ◌≤◌, ◌==◌, if◌then◌else◌, Bool, true, false, List, ◌++◌, [], length, take, drop, replicate, sym, ap, ap₂, ◌∙◌, refl, arith, subst, Option, Some, None, IfSome, IsTrue, ◌↔◌, FitsSigned, Fits as Fits32}
use Rattle.std.specs.Int.{w32, cast_unsigned}
use Rattle.std.proofs.lemmas.Bool.{eqb-true}
use Rattle.std.proofs.Math.Facts.{Fits-of_z}
use Rattle.std.proofs.lemmas.List.{take_all, drop_all, length-drop, drop-replicate}
use Rattle.bench_base.specs.Table.{Four, Eight, room}
use Rattle.indicium.specs.declared.Mark.{Mark}
use Rattle.indicium.specs.Marks as marks
use Rattle.psd_wire.specs.declared.message.Request.{Request}
use Rattle.psd_wire.specs.declared.message.Message.TheVariants as m
use Rattle.psd_wire.specs.Grammar as grammar
use Rattle.psd_wire.specs.Grammar.{request_table}
use Rattle.psd_wire.proofs.Readings.{length_request, request_room}
use Rattle.registers.specs.Sums.{Sound, total}
use Rattle.psd_state.specs.State.{State, is_stored, kept_code}
use Rattle.psd_state.specs.declared.parts.Fields.{Fields}
use Rattle.psd_state.specs.Payload.{flag_of, filled, coded_part, pending_room, pending_part, mark_part, end_part, spelled, Ranges, IsOld, fields_at, fields_of, pending_place, mark_place, Parts, PendingWhole, MarkWhole, IsKeptAt, sums_of}
use Rattle.psd_state.proofs.Parted.{Spells, parts_of, whole_pending, whole_mark, mark_kept_at, same_pending, same_mark, stored_code}
use Rattle.bench_base.proofs.Facts.{not_so}

pub some_by : {A : Type 0} (o : Option A) (P Q : A → Type 0) → ((a : A) → P a → Q a) → IfSome o P → IfSome o Q
some_by None P Q f h = tt
some_by (Some a) P Q f h = f a h

-- == what was read is what the record has ==

module _ (v : ℕ) (f : Fields) (bytes : List ℕ) (stand : f ≡ fields_at v bytes) (s : State) (spells : Spells v s) (e : spelled v s ≡ bytes) where
  parts_are : Parts v s bytes
  parts_are = parts_of v s bytes spells e

  pub fields_are : f ≡ fields_of v s
  fields_are = stand ∙ parts_are.fields

  pending_whole : PendingWhole s.pending
  pending_whole = whole_pending s.device s.number s.phase s.registers s.pending spells.holds.pending

  mark_whole : MarkWhole s.mark
  mark_whole = whole_mark s.device s.registers s.mark spells.holds.mark

  kept_at : IsKeptAt f.pieces s.mark
  kept_at = subst (λ n. IsKeptAt n s.mark) (sym (ap (λ (x : Fields). x.pieces) fields_are)) (mark_kept_at s.device s.registers s.mark spells.holds.mark)

  pub no_pending : ((o : Option Request) → PendingWhole o → flag_of o ≡ f.pending → pending_part v f.key o ≡ take (pending_room v) (drop (pending_place v) bytes) → ⊥) → ⊥
  no_pending none = none s.pending pending_whole (sym (ap (λ (x : Fields). x.pending) fields_are)) (ap (λ (x : Fields). pending_part v x.key s.pending) fields_are ∙ sym parts_are.pending)

  pub no_mark : ((o : Option Mark) → MarkWhole o → IsKeptAt f.pieces o → mark_part f.key o ≡ take 64 (drop (mark_place v) bytes) → ⊥) → ⊥
  no_mark none = none s.mark mark_whole kept_at (ap (λ (x : Fields). mark_part x.key s.mark) fields_are ∙ sym parts_are.mark)

  pub no_end : (drop (mark_place v + 64) bytes ≡ end_part v → ⊥) → ⊥
  no_end none = none parts_are.end

  pub pending_is : (o : Option Request) → PendingWhole o → flag_of o ≡ f.pending → pending_part v f.key o ≡ take (pending_room v) (drop (pending_place v) bytes) → s.pending ≡ o
  pending_is o whole flag part =
      sym (same_pending v f.key o s.pending whole pending_whole (flag ∙ ap (λ (x : Fields). x.pending) fields_are)
      (part ∙ parts_are.pending ∙ ap (λ (x : Fields). pending_part v x.key s.pending) (sym fields_are)))

  pub mark_is : (o : Option Mark) → MarkWhole o → IsKeptAt f.pieces o → mark_part f.key o ≡ take 64 (drop (mark_place v) bytes) → s.mark ≡ o
  mark_is o whole at part =
      sym (same_mark f.key f.pieces o s.mark whole mark_whole at kept_at (part ∙ parts_are.mark ∙ ap (λ (x : Fields). mark_part x.key s.mark) (sym fields_are)))

-- sums and mark of a record of version 1 are old ones
pub not_old : (f : Fields) (s : State) (k : Option Mark) (b : Bool) → f ≡ fields_of 1 s → s.mark ≡ k → IsOld s
    → (IsTrue b ↔ ((total (sums_of f) ≤ 4294967295) × IfSome k (λ x. x.version ≡ 1))) → b ≡ false → ⊥
not_old f s k b same is old says off =
    not_so b _ says off (
      subst (λ (x : Fields). total (sums_of x) ≤ 4294967295) (sym same) old.total,
      subst (λ o. IfSome o (λ x. x.version ≡ 1)) is old.mark,
    )

-- == the record that was made of the parts has these bytes ==

pub parts_made : (v : ℕ) (f : Fields) (bytes : List ℕ) (s : State) (o : Option Request) (k : Option Mark) → f ≡ fields_at v bytes → f ≡ fields_of v s
    → s.pending ≡ o → s.mark ≡ k → pending_part v f.key o ≡ take (pending_room v) (drop (pending_place v) bytes) → mark_part f.key k ≡ take 64 (drop (mark_place v) bytes)
    → drop (mark_place v + 64) bytes ≡ end_part v → Parts v s bytes
parts_made v f bytes s o k stand same pending mark p x z =
    let key : f.key ≡ s.key = ap (λ (y : Fields). y.key) same in
    record {
      fields = sym stand ∙ same;
      pending = sym p ∙ ap₂ (λ y q. pending_part v y q) key (sym pending);
      mark = sym x ∙ ap₂ (λ y q. mark_part y q) key (sym mark);
      end = z;
    }

-- nothing is left after the mark in version 1
pub nothing_behind : (bytes : List ℕ) → length bytes ≡ 209 → drop 209 bytes ≡ []
nothing_behind bytes l = drop_all 209 bytes (omega (arith, l))

-- the four zeros of version 2
pub zeros_behind : (bytes : List ℕ) → length bytes ≡ 209 → replicate (length (take 4 (drop 205 bytes))) 0 ≡ take 4 (drop 205 bytes) → drop 205 bytes ≡ replicate 4 0
zeros_behind bytes l h =
    let long : length (drop 205 bytes) ≡ 4 = length-drop 205 bytes ∙ omega (arith, l) in
    let all : take 4 (drop 205 bytes) ≡ drop 205 bytes = take_all 4 (drop 205 bytes) (omega (arith, long)) in
    sym all ∙ sym h ∙ ap (λ n. replicate n 0) (ap length all ∙ long)

pub zeros_are : (bytes : List ℕ) → length bytes ≡ 209 → drop 205 bytes ≡ replicate 4 0 → replicate (length (take 4 (drop 205 bytes))) 0 ≡ take 4 (drop 205 bytes)
zeros_are bytes l h =
    let all : take 4 (drop 205 bytes) ≡ replicate 4 0 = ap (take 4) h in
    ap (λ n. replicate n 0) (ap length all) ∙ sym all

-- 71 bytes are a request of version 1
pub first_alone : (key bytes : List ℕ) (o : Option Request) → PendingWhole o → pending_part 1 key o ≡ bytes → length bytes ≡ 71 → IfSome o (λ q. q.version ≡ 1)
unfolding pending_part
first_alone key bytes None w e l = tt
first_alone key bytes (Some q) w e l = of_room q.version w.0 (omega (arith, length_request q key w, ap length e, l))
  where
    of_room : (v : ℕ) → (1 ≤ v) × (v ≤ 2) → request_room v ≡ 39 → v ≡ 1
    of_room v known h = go (v == 1) (λ yes. eqb-true v 1 yes) h
      where
        go : (b : Bool) → (b ≡ true → v ≡ 1) → room (request_table (if b then Four else Eight)) ≡ 39 → v ≡ 1
        go true f h = f refl
        go false f h = absurd (omega (arith, h))

-- == the numbers fit ==

flag_byte : (o : Option Request) → flag_of o < 2 ^ 8
flag_byte None = omega arith
flag_byte (Some q) = omega arith

pub ranges_made : (s : State) → is_stored s.phase ≡ true → Sound s.registers → s.device < 2 ^ 32 → length s.key ≡ 32 → s.registers.pieces < 2 ^ 32 → s.number < 2 ^ 32
    → s.customer < 2 ^ 32 → s.origin < 2 ^ 32 → FitsSigned w32 s.deadline → FitsSigned w32 s.last_day → Ranges s
ranges_made s stored sound device key pieces number customer origin ft fu =
    let code = stored_code s.phase stored in
    let deadline : Fits32 w32 (cast_unsigned w32 s.deadline) = Fits-of_z ft in
    let last : Fits32 w32 (cast_unsigned w32 s.last_day) = Fits-of_z fu in
    let within = sound.within in
    record {
      head = (device, (omega (arith, code.1), tt));
      key = key;
      middle = (
        omega (arith, within),
        (omega (arith, within), (omega (arith, within), (pieces, (number, (omega (arith, deadline), (omega (arith, last), (customer, (origin, (flag_byte s.pending, tt))))))))),
      );
      deadline = ft;
      last_day = fu;
    }

-- == what is written ==

pub coded_is : (key code : List ℕ) (o : Option Mark) → kept_code key o ≡ code → coded_part code o ≡ mark_part key o
unfolding mark_part marks.spell
coded_is key code None e = refl
coded_is key code (Some k) e = ap (λ x. marks.body k ++ x) (sym e)

pub filled_made : (q : Request) (bytes : List ℕ) → length (grammar.body (m.Request q)) ≤ 55 → bytes ≡ grammar.body (m.Request q)
    → bytes ++ drop (length (grammar.body (m.Request q))) (replicate 55 0) ≡ filled q
unfolding filled
filled_made q bytes short e =
    ap₂ (λ x y. x ++ y) e (drop-replicate (length (grammar.body (m.Request q))) 55 0)
