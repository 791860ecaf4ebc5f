-- An order that counts goes on counting, whatever comes.
use Rattle.std.proofs.Common.{◌≡◌, ℕ, List, ◌∷◌, Option, Some, None, refl, ap, ◌∙◌}
use Rattle.std.specs.Prelude.{◌==◌}
use Rattle.bench_base.specs.declared.{ledger.Commit.Commit, ledger.Commit.TheVariants.Ordered, ledger.Entry.Entry}
use Rattle.bench_base.specs.Jobs.{Job, job_of}
use Rattle.bench_base.specs.Ledger.{Ledger, counted}
use Rattle.bench_base.specs.Plans.{Plan}
use Rattle.bench_base.specs.Replies.{ReplyClass}
use Rattle.bench_base.proofs.Facts.{kept_first}
use Rattle.node_acts.specs.Plans.{after_told}
use Rattle.scan_laws.proofs.Entries.{kept_told, counted_kept}
use Rattle.send_laws.specs.Orders.{postage_in, ordered_postage}

job_with : (o : Option Job) (a : ℕ) → postage_in o ≡ Some a → (b : Job) × (o ≡ Some b) × (b.postage ≡ a)
job_with None a is = absurd (cc)
job_with (Some b) a is = (b, refl, cc)

pub ordered_more : (j a : ℕ) (c : Commit) (C : List Commit) → ordered_postage j C ≡ Some a → ordered_postage j (c ∷ C) ≡ Some a
ordered_more j a (Ordered i d p q k) C is =
    let was = job_with (job_of j C) a is in
    ap (λ (o : Option Job). postage_in o) (kept_first (i == j) (job_of j C) (record { device = d; piece = p; postage = q; class = k }) was.0 was.1) ∙ ap (λ (n : ℕ). Some n) was.2
ordered_more j a _ C is = is

-- after an entry
pub ordered_entry : (j a : ℕ) (k : Entry) (H : Ledger) → ordered_postage j (counted H) ≡ Some a → ordered_postage j (counted (k ∷ H)) ≡ Some a
ordered_entry j a k H is = counted_kept (λ C. ordered_postage j C ≡ Some a) (ordered_more j a) k H is

-- after a reply to a plan
pub ordered_kept : (j a : ℕ) (plan : Plan) (t : ReplyClass) (H : Ledger) → ordered_postage j (counted H) ≡ Some a → ordered_postage j (counted (after_told plan t H)) ≡ Some a
ordered_kept j a plan t H is = kept_told (λ K. ordered_postage j (counted K) ≡ Some a) (ordered_entry j a) plan t H is
