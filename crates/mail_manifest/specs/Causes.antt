-- Why a manifest is refused before any scan.
use Rattle.std.specs.Prelude.{◌≡◌, ◌⊎◌, ℕ, List, length, Bool, true, false, Option, Some, None, ◌==◌}
use Rattle.mail_manifest.specs.Listings.{Listing, code_of, postage_in_all, AllRead, IsFirstUnread}
use Rattle.mail_manifest.specs.declared.answer.Answer.{Answer}
use Rattle.mail_manifest.specs.declared.answer.Answer.TheVariants as answers

-- the one or the other
abbrev pub Either : Bool → Type 0 → Type 0 → Type 0
Either true one other = one
Either false one other = other

abbrev pub FindsTotal : Listing → Option Answer → Type 0
FindsTotal m cause = Either (postage_in_all m == m.opening.total) (cause ≡ None) (cause ≡ Some (answers.NoTotal (postage_in_all m)))

abbrev pub FindsMarks : Listing → Option Answer → Type 0
FindsMarks m cause = (AllRead m × FindsTotal m cause) ⊎ ((number : ℕ) × IsFirstUnread number m × (cause ≡ Some (answers.Unread number)))

abbrev pub FindsCode : Listing → List ℕ → Option Answer → Type 0
FindsCode m code cause = ((code ≡ code_of m) × FindsMarks m cause) ⊎ ((code ≡ code_of m → ⊥) × (cause ≡ Some answers.NoCode))

-- the first cause to refuse the manifest in a check of this code: its count, its code, a mark that does not read, or its total
abbrev pub Finds : Listing → List ℕ → Option Answer → Type 0
Finds m code cause = Either (length m.marks == m.opening.count) (FindsCode m code cause) (cause ≡ Some (answers.NoCount (length m.marks)))
