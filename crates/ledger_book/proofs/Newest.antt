-- The newest of a list is the last of a slice.
use Rattle.std.proofs.Common.{◌≡◌, List, [], ◌∷◌, ◌++◌, reverse, ap, ◌∙◌}
use Rattle.std.proofs.lemmas.List.{reverse-append}

pub reverse_last : {A : Type 0} (xs rest : List A) (x : A) → xs ≡ rest ++ (x ∷ []) → reverse xs ≡ x ∷ reverse rest
reverse_last xs rest x e = ap reverse e ∙ reverse-append rest (x ∷ [])
