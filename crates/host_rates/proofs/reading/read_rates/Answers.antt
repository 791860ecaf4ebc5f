use Rattle.std.proofs.Common.{arith}
use Rattle.std.proofs.lemmas.Bool.{false≢true}
use Rattle.toml.specs.View.{table_view}
use Rattle.host_rates.specs.Reading.{rates_in}
use Rattle.host_rates.proofs.Texts.{AreRatesOf-read, IsRates-read, answer_short, document_some, document_none, read_unless}
use Rattle.host_rates.proofs.reading.read_rates.Goals as goal

pub returns-in-Err-2 : goal.returns-in-Err-2
returns-in-Err-2 c =
    let none = document_none c.args.text.now (c.in-Err.ensures.refused (λ memory. false≢true (c.if-is_memory.ensures.1 memory))) in
    record { exact = rw (answer_short c.args.text.now _ c.if-text-gt-MAX_BYTES.false none); long = λ more. absurd (omega (arith, more, c.if-text-gt-MAX_BYTES.false)); of_text = tt; form = tt }

pub returns : goal.returns
returns c =
    let members = table_view c.in-Ok.table in
    let some = document_some c.args.text.now members c.in-Ok.ensures.ok.0 c.in-Ok.ensures.ok.1 in
    record {
      exact = rw (answer_short c.args.text.now _ c.if-text-gt-MAX_BYTES.false some) (read_unless c.rates.result (rates_in members) c.rates.ensures.exact);
      long = λ more. absurd (omega (arith, more, c.if-text-gt-MAX_BYTES.false));
      of_text = AreRatesOf-read c.rates.result c.args.text.now members some c.rates.ensures.exact;
      form = IsRates-read c.rates.result members c.rates.ensures.exact;
    }
