use Rattle.bench_base.proofs.Facts.{none_by}
use Rattle.psd_state.proofs.Parted.{not_first, not_second}
use Rattle.psd_state.proofs.record.DevRec.read_payload.Goals as goal

pub returns-then-payload-lt16-clause-none : goal.returns-then-payload-lt16-clause-none
returns-then-payload-lt16-clause-none c =
    none_by c.read_first.result _ _ (λ none s d reads. not_second c.args.payload.now s c.if-payload-lt16.true reads (λ old e. none s reads.holds reads.fits old d e)) c.read_first.ensures.none

pub returns-else-payload-lt16-clause-none : goal.returns-else-payload-lt16-clause-none
returns-else-payload-lt16-clause-none c =
    none_by c.read_second.result _ _ (λ none s d reads. not_first c.args.payload.now s c.if-payload-lt16.false reads (λ e. none s reads.holds reads.fits d e)) c.read_second.ensures.none
