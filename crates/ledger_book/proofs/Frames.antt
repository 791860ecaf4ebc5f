-- A commit of another node changes nothing of this one.
use Rattle.std.proofs.Common.{◌≡◌, ℕ, false, List, ◌∷◌, refl, true≢false}
use Rattle.bench_base.specs.declared.{words.Node.TheVariants.Device, words.Node.TheVariants.Centre, words.Node.TheVariants.Host, words.Node.TheVariants.Verifier, ledger.Commit.Commit, ledger.Commit.TheVariants.Made, ledger.Commit.TheVariants.Asked, ledger.Commit.TheVariants.Applied, ledger.Commit.TheVariants.Debited, ledger.Commit.TheVariants.Registered, ledger.Commit.TheVariants.Opened, ledger.Commit.TheVariants.Deposited, ledger.Commit.TheVariants.Flagged, ledger.Commit.TheVariants.Ruled, ledger.Commit.TheVariants.Settled, ledger.Commit.TheVariants.Ordered, ledger.Commit.TheVariants.Held, ledger.Commit.TheVariants.Began, ledger.Commit.TheVariants.Closed, ledger.Commit.TheVariants.Trusted, ledger.Commit.TheVariants.Accepted}
use Rattle.bench_base.specs.Nodes.{same_node, node_of}
use Rattle.bench_base.specs.Jobs.{last_job, job_of, held_of, state_of, begun, open_job, top}
use Rattle.bench_base.specs.Scans.{trusted, accepted, blocks}
use Rattle.ledger_book.specs.Views.{of_device, of_centre, of_customer}

pub device_apart : (d : ℕ) (c : Commit) (C : List Commit) → same_node (node_of c) (Device d) ≡ false → of_device d (c ∷ C) ≡ of_device d C
device_apart d (Made e key) C h = rw h refl
device_apart d (Asked e n note) C h = rw h refl
device_apart d (Applied e n v) C h = rw h refl
device_apart d (Debited e piece postage class day version) C h = rw h refl
device_apart d _ C h = refl

pub centre_apart : (d : ℕ) (c : Commit) (C : List Commit) → same_node (node_of c) Centre ≡ false → of_centre d (c ∷ C) ≡ of_centre d C
centre_apart d (Registered e origin key) C h = absurd (true≢false h)
centre_apart d (Ruled e n v note) C h = absurd (true≢false h)
centre_apart d (Settled e n) C h = absurd (true≢false h)
centre_apart d _ C h = refl

pub customer_apart : (w : ℕ) (c : Commit) (C : List Commit) → same_node (node_of c) Centre ≡ false → of_customer w (c ∷ C) ≡ of_customer w C
customer_apart w (Opened x) C h = absurd (true≢false h)
customer_apart w (Deposited x n a) C h = absurd (true≢false h)
customer_apart w (Flagged x s) C h = absurd (true≢false h)
customer_apart w _ C h = refl

pub job_apart : (j : ℕ) (c : Commit) (C : List Commit) → same_node (node_of c) Host ≡ false → (job_of j (c ∷ C) ≡ job_of j C) × (held_of j (c ∷ C) ≡ held_of j C) × (state_of j (c ∷ C) ≡ state_of j C) × (begun j (c ∷ C) ≡ begun j C)
job_apart j (Ordered i d p a k) C h = absurd (true≢false h)
job_apart j (Held i mark) C h = absurd (true≢false h)
job_apart j (Began i) C h = absurd (true≢false h)
job_apart j (Closed i) C h = absurd (true≢false h)
job_apart j _ C h = (refl, refl, refl, refl)

pub host_apart : (d : ℕ) (c : Commit) (C : List Commit) → same_node (node_of c) Host ≡ false → (last_job (c ∷ C) ≡ last_job C) × (open_job d (c ∷ C) ≡ open_job d C) × (top d (c ∷ C) ≡ top d C)
host_apart d (Ordered i e p a k) C h = absurd (true≢false h)
host_apart d (Held i mark) C h = absurd (true≢false h)
host_apart d (Began i) C h = absurd (true≢false h)
host_apart d (Closed i) C h = absurd (true≢false h)
host_apart d _ C h = (refl, refl, refl)

pub verifier_apart : (d p : ℕ) (c : Commit) (C : List Commit) → same_node (node_of c) Verifier ≡ false → (trusted d (c ∷ C) ≡ trusted d C) × (accepted d p (c ∷ C) ≡ accepted d p C) × (blocks (c ∷ C) ≡ blocks C)
verifier_apart d p (Trusted e key) C h = absurd (true≢false h)
verifier_apart d p (Accepted e q scan) C h = absurd (true≢false h)
verifier_apart d p _ C h = (refl, refl, refl)
