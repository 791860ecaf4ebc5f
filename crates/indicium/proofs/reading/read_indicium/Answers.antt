use Rattle.std.proofs.Common.{◌≡◌, ◌≢◌, ◌↔◌, ℕ, List, Result, length, slice_index, IfOk, IsErrOf, sym, ◌∙◌, subst, arith}
use Rattle.bench_base.specs.Table.{IsBytes}
use Rattle.bench_base.specs.Rules.{IsVersion}
use Rattle.bench_base.specs.declared.{refusals.MarkFault.MarkFault, refusals.MarkFault.TheVariants.Length, refusals.MarkFault.TheVariants.Version, refusals.MarkFault.TheVariants.Algorithm}
use Rattle.indicium.specs.Marks.{ReadsAs}
use Rattle.indicium.specs.declared.Mark.{Mark}
use Rattle.indicium.proofs.Readings as laws
use Rattle.indicium.proofs.reading.read_indicium.Goals as goal

abbrev Answer : Type 0
Answer = Result (Mark × List ℕ) MarkFault

-- what holds of the definition holds of the answer
at : (P : Answer → Type 0) (answer read : Answer) → answer ≡ read → P read → P answer
at P answer read e h = subst P (sym e) h

pub returns-clause-found : goal.returns-clause-found
returns-clause-found c =
    let bytes : IsBytes c.args.bytes.now = λ i. omega (arith, c.type_inv.bytes i) in
    at (λ r. IfOk r (λ x. ReadsAs c.args.bytes.now x.0 x.1)) _ _ c.fields_and_code.ensures.exact (laws.found c.args.bytes.now bytes)

pub returns-clause-long : goal.returns-clause-long
returns-clause-long c =
    let bytes : IsBytes c.args.bytes.now = λ i. omega (arith, c.type_inv.bytes i) in
    at (λ r. IfOk r (λ _. length c.args.bytes.now ≡ 64)) _ _ c.fields_and_code.ensures.exact (laws.long c.args.bytes.now)

pub returns-clause-only : goal.returns-clause-only
returns-clause-only c mark code h = c.fields_and_code.ensures.exact ∙ laws.only c.args.bytes.now mark code h

pub returns-clause-length : goal.returns-clause-length
returns-clause-length c =
    at (λ r. IsErrOf r (Length (length c.args.bytes.now)) ↔ (length c.args.bytes.now ≢ 64)) _ _ c.fields_and_code.ensures.exact (laws.length_fault c.args.bytes.now)

pub returns-clause-version : goal.returns-clause-version
returns-clause-version c =
    at (λ r. IsErrOf r (Version (slice_index c.args.bytes.now 0))
    ↔ ((length c.args.bytes.now ≡ 64) × (slice_index c.args.bytes.now 0 ≢ 1) × (slice_index c.args.bytes.now 0 ≢ 2)))
    _ _ c.fields_and_code.ensures.exact (laws.version_fault c.args.bytes.now)

pub returns-clause-algorithm : goal.returns-clause-algorithm
returns-clause-algorithm c =
    at (λ r. IsErrOf r (Algorithm (slice_index c.args.bytes.now 1))
    ↔ ((length c.args.bytes.now ≡ 64) × IsVersion (slice_index c.args.bytes.now 0) × (slice_index c.args.bytes.now 1 ≢ 1)))
    _ _ c.fields_and_code.ensures.exact (laws.algorithm_fault c.args.bytes.now)
