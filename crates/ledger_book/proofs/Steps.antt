-- What one more commit does to the node that made it.
use Rattle.std.proofs.Common.{◌≡◌, ℕ, ℤ, true, false, List, ◌∷◌, refl, eqb}
use Rattle.std.proofs.lemmas.Bool.{eq-eqb}
use Rattle.bench_base.specs.declared.{words.Verdict.Verdict, ledger.Commit.Commit, ledger.Commit.TheVariants.Made, ledger.Commit.TheVariants.Asked, ledger.Commit.TheVariants.Applied, ledger.Commit.TheVariants.Debited, ledger.Commit.TheVariants.Registered, ledger.Commit.TheVariants.Ruled, ledger.Commit.TheVariants.Settled}
use Rattle.ledger_terms.specs.Requests.{request_of}
use Rattle.ledger_book.specs.Views.{of_device, device_made, device_asked, device_applied, device_debited, of_centre, centre_registered, centre_ruled, centre_settled}

itself : (d : ℕ) → eqb d d ≡ true
itself d = eq-eqb d d refl

pub made : (d : ℕ) (key : List ℕ) (C : List Commit) → of_device d (Made d key ∷ C) ≡ device_made key (of_device d C)
made d key C = let h = itself d in rw h (refl {a = device_made key (of_device d C)})

pub asked : (d n : ℕ) (note : List ℕ) (C : List Commit) → of_device d (Asked d n note ∷ C) ≡ device_asked n note (of_device d C)
asked d n note C = let h = itself d in rw h (refl {a = device_asked n note (of_device d C)})

pub applied : (d n : ℕ) (v : Verdict) (C : List Commit) → of_device d (Applied d n v ∷ C) ≡ device_applied n v (request_of d n C) (of_device d C)
applied d n v C = let h = itself d in rw h (refl {a = device_applied n v (request_of d n C) (of_device d C)})

pub debited : (d piece postage class version : ℕ) (day : ℤ) (C : List Commit) → of_device d (Debited d piece postage class day version ∷ C) ≡ device_debited postage day (of_device d C)
debited d piece postage class version day C = let h = itself d in rw h (refl {a = device_debited postage day (of_device d C)})

pub registered : (d origin : ℕ) (key : List ℕ) (C : List Commit) → of_centre d (Registered d origin key ∷ C) ≡ centre_registered origin key (of_centre d C)
registered d origin key C = let h = itself d in rw h (refl {a = centre_registered origin key (of_centre d C)})

pub ruled : (d n : ℕ) (v : Verdict) (note : List ℕ) (C : List Commit) → of_centre d (Ruled d n v note ∷ C) ≡ centre_ruled n v note (of_centre d C)
ruled d n v note C = let h = itself d in rw h (refl {a = centre_ruled n v note (of_centre d C)})

pub settled : (d n : ℕ) (C : List Commit) → of_centre d (Settled d n ∷ C) ≡ centre_settled n (of_centre d C)
settled d n C = let h = itself d in rw h (refl {a = centre_settled n (of_centre d C)})

-- a ruling on another device changes nothing of this one
pub other_registered : (e d origin : ℕ) (key : List ℕ) (C : List Commit) → eqb e d ≡ false → of_centre d (Registered e origin key ∷ C) ≡ of_centre d C
other_registered e d origin key C h = rw h refl

pub other_ruled : (e d n : ℕ) (v : Verdict) (note : List ℕ) (C : List Commit) → eqb e d ≡ false → of_centre d (Ruled e n v note ∷ C) ≡ of_centre d C
other_ruled e d n v note C h = rw h refl

pub other_settled : (e d n : ℕ) (C : List Commit) → eqb e d ≡ false → of_centre d (Settled e n ∷ C) ≡ of_centre d C
other_settled e d n C h = rw h refl
