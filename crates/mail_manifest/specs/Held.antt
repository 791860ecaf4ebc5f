-- What contracts see of a manifest.
use Rattle.std.specs.Prelude.{ℕ, zero, suc, List, [], ◌∷◌, take, drop, Option, Some, None}
use Rattle.mail_manifest.specs.Listings.{Listing, listing}
use Rattle.mail_manifest.specs.declared.manifest.Manifest.{Manifest}

-- so many marks, one after the other
abbrev pub marks_in : ℕ → List ℕ → List (List ℕ)
marks_in zero bytes = []
marks_in (suc n) bytes = take 64 bytes ∷ marks_in n (drop 64 bytes)

abbrev pub listed : Manifest → Listing
listed m = listing m.opening (marks_in m.pieces (drop 14 m.text.items))

abbrev pub listing_in : Option Manifest → Option Listing
listing_in None = None
listing_in (Some m) = Some (listed m)
