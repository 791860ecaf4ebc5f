-- What a later commit doesn't change: a look-up by number that found something, and what was once so.
use Rattle.std.proofs.Common.{◌≡◌, ℕ, Bool, true, false, List, ◌∷◌, Some, cond, refl}
use Rattle.std.specs.Prelude.{◌==◌, ◌&&◌}
use Rattle.bench_base.specs.declared.{words.Kind.TheVariants.Enrol, words.Verdict.Verdict, ledger.Commit.Commit, ledger.Commit.TheVariants.Asked, ledger.Commit.TheVariants.Applied, ledger.Commit.TheVariants.Ruled, ledger.Commit.TheVariants.Began}
use Rattle.bench_base.specs.Kinds.{same_kind, is_granted}
use Rattle.bench_base.specs.Jobs.{begun}
use Rattle.bench_base.proofs.Facts.{kept_first}
use Rattle.ledger_terms.specs.Requests.{request_in, note_of}
use Rattle.ledger_terms.specs.Devices.{applied_of}
use Rattle.ledger_terms.specs.Centres.{enrolled}
use Rattle.psd_wire.specs.declared.message.ReplyMsg.{ReplyMsg}
use Rattle.ledger_terms.specs.InFlight.{ruling_of}
use Rattle.ledger_terms.specs.Rulings.{reply_to, ruled_reply}

pub note_kept : (d n : ℕ) (x : List ℕ) (c : Commit) (C : List Commit) → note_of d n C ≡ Some x → note_of d n (c ∷ C) ≡ Some x
note_kept d n x (Asked f m r) C e = kept_first ((f == d) && (m == n)) (note_of d n C) r x e
note_kept d n x _ C e = e

pub ruling_kept : (d n : ℕ) (x : Verdict × List ℕ) (c : Commit) (C : List Commit) → ruling_of d n C ≡ Some x → ruling_of d n (c ∷ C) ≡ Some x
ruling_kept d n x (Ruled f m v r) C e = kept_first ((f == d) && (m == n)) (ruling_of d n C) (v, r) x e
ruling_kept d n x _ C e = e

pub ruled_reply_kept : (d n : ℕ) (p : ReplyMsg) (c : Commit) (C : List Commit) → ruled_reply d n C ≡ Some p → ruled_reply d n (c ∷ C) ≡ Some p
ruled_reply_kept d n p (Ruled f m v r) C e = kept_first ((f == d) && (m == n)) (ruled_reply d n C) (reply_to C (request_in r)) p e
ruled_reply_kept d n p _ C e = e

pub applied_kept : (d n : ℕ) (x : Verdict) (c : Commit) (C : List Commit) → applied_of d n C ≡ Some x → applied_of d n (c ∷ C) ≡ Some x
applied_kept d n x (Applied f m v) C e = kept_first ((f == d) && (m == n)) (applied_of d n C) v x e
applied_kept d n x _ C e = e

pub enrolled_kept : (d c : ℕ) (k : Commit) (C : List Commit) → enrolled d C ≡ Some c → enrolled d (k ∷ C) ≡ Some c
enrolled_kept d c (Ruled f m v r) C e = kept_first ((f == d) && (is_granted v && same_kind (request_in r).kind Enrol)) (enrolled d C) (request_in r).customer c e
enrolled_kept d c _ C e = e

pub begun_kept : (j : ℕ) (c : Commit) (C : List Commit) → begun j C ≡ true → begun j (c ∷ C) ≡ true
begun_kept j (Began i) C h = go (i == j) (begun j C) h
  where
    go : (t b : Bool) → b ≡ true → cond t true b ≡ true
    go true b e = refl
    go false b e = e
begun_kept j _ C h = h
