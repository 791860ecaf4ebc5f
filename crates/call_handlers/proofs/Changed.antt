-- What an act changes, by what the rules say that it leaves.
use Rattle.std.proofs.Common.{◌≡◌, sym, subst}
use Rattle.node_acts.proofs.OfCommits.{of_commit}
use Rattle.node_acts.specs.Changes.{ChangesBy}
use Rattle.centre_ledger.specs.Acts.{CentreAct}
use Rattle.centre_ledger.specs.ActLaws as centre
use Rattle.centre_ledger.specs.Books.{Books, AreSound, put_row}
use Rattle.host_jobs.specs.Acts.{HostAct}
use Rattle.host_jobs.specs.ActLaws as host
use Rattle.host_jobs.specs.Rows.{Jobs}
use Rattle.host_jobs.specs.Soundness.{AreSound as AreSoundJobs, IsDerived, IsNext}
use Rattle.host_jobs.specs.declared.kept.Kept.{Kept}
use Rattle.verifier.specs.Acts.{ScanAct}
use Rattle.verifier.specs.ActLaws as verifier
use Rattle.verifier.specs.Seen.{Seen}

sound_by : {A : Type 0} (b : Books) (act : CentreAct A) → centre.LeavesSound b act → ChangesBy (λ x. AreSound (put_row b x)) act
sound_by b act leaves = of_commit _ _ act leaves (λ c x left. left.0)

pub put_sound : {A : Type 0} (b books : Books) → b ≡ books → (act : CentreAct A) {result : CentreAct A} → result ≡ act → centre.LeavesSound b act → ChangesBy (λ x. AreSound (put_row books x)) result
put_sound {A} b books same act {result} is leaves =
    subst (λ (w : Books). ChangesBy (λ x. AreSound (put_row w x)) result) same (subst (λ (a : CentreAct A). ChangesBy (λ x. AreSound (put_row b x)) a) (sym is) (sound_by b act leaves))

next_by : {A : Type 0} (rows : Jobs) (act : HostAct A) → host.LeavesSound rows act → ChangesBy (λ x. IsNext rows x) act
next_by rows act leaves = of_commit _ _ act leaves (λ c x left. left.0)

pub put_next : {A : Type 0} (b jobs : Jobs) → b ≡ jobs → (act : HostAct A) {result : HostAct A} → result ≡ act → host.LeavesSound b act → ChangesBy (λ x. IsNext jobs x) result
put_next {A} b jobs same act {result} is leaves =
    subst (λ (w : Jobs). ChangesBy (λ x. IsNext w x) result) same (subst (λ (a : HostAct A). ChangesBy (λ x. IsNext b x) a) (sym is) (next_by b act leaves))

fit_by : {A : Type 0} (s : Seen) (act : ScanAct A) → verifier.LeavesSound s act → ChangesBy (λ x. verifier.IsFit s x) act
fit_by s act leaves = of_commit _ _ act leaves (λ c x left. left.0)

pub put_fit : {A : Type 0} (s : Seen) (act : ScanAct A) {result : ScanAct A} → result ≡ act → verifier.LeavesSound s act → ChangesBy (λ x. verifier.IsFit s x) result
put_fit {A} s act is leaves = subst (λ (a : ScanAct A). ChangesBy (λ x. verifier.IsFit s x) a) (sym is) (fit_by s act leaves)

-- what is kept of these jobs is kept of those that are read
pub kept_of : {rows jobs : Jobs} {kept : Kept} → rows ≡ jobs → IsDerived jobs kept → IsDerived rows kept
kept_of {kept = kept} same is = subst (λ (w : Jobs). IsDerived w kept) (sym same) is

-- as put_next, of jobs of which this is kept: they are sound
pub put_made : {A : Type 0} {rows jobs : Jobs} {kept : Kept} → rows ≡ jobs → IsDerived jobs kept → (act : HostAct A) {result : HostAct A} → result ≡ act
    → (AreSoundJobs rows → host.LeavesSound rows act) → ChangesBy (λ x. IsNext jobs x) result
put_made {rows = rows} {jobs = jobs} same derived act is leaves = put_next rows jobs same act is (leaves (kept_of same derived).sound)
