use Rattle.std.proofs.Common.{◌≡◌, ℕ, ◌≤◌, List, length, take, IsPermutation, sym, subst, ◌∙◌, arith}
use Rattle.std.specs.List.Sorted.{IsNonDecreasingBy}
use Rattle.std.proofs.lemmas.List.{length-take-le}
use Rattle.std.proofs.lemmas.Slice.{take-put_mid}
use borrow.Rule.Slice.PartMut.{put_mid}
use Rattle.verifier.specs.declared.index.Entry.{Entry}
use Rattle.verifier.specs.Index.{rank_of}
use Rattle.verifier.proofs.index.settle.Goals as goal

-- the front of the array is what was sorted
front : (xs ys : List Entry) (len : ℕ) → len ≤ length xs → length ys ≡ length (take len xs) → take len (put_mid 0 len xs ys) ≡ ys
front xs ys len room long = take-put_mid 0 len xs ys len (omega (arith, long, length-take-le len xs room)) (omega arith)

pub are_apart-requires : goal.are_apart-requires
are_apart-requires c =
    let xs = c.args.entries.now in
    let ys = c.sort.new.entries in
    subst (λ (l : List Entry). IsNonDecreasingBy (λ (e : Entry). rank_of e) l) (sym (front xs ys c.args.len (omega arith) c.sort.ensures.len)) c.sort.ensures.sorted

pub returns-clause-moved : goal.returns-clause-moved
returns-clause-moved c =
    let xs = c.args.entries.now in
    let ys = c.sort.new.entries in
    subst (λ (l : List Entry). IsPermutation (take c.args.len xs) l) (sym (front xs ys c.args.len (omega arith) c.sort.ensures.len)) c.sort.ensures.moved
