-- The verifier, as the ledger shows it to the bench, and what a call of it does by that alone.
use Rattle.std.specs.Prelude.{ℤ}
use Rattle.bench_base.specs.declared.{words.Node.TheVariants.Verifier, events.Reply.Reply}
use Rattle.bench_base.specs.Table.{IsBytes}
use Rattle.node_acts.specs.declared.{act.Act.Act, asked.Asked.Asked, said.Said.Said}
use Rattle.node_acts.specs.Said.{kind_by}
use Rattle.node_acts.specs.Kinds.{Kind, OfCall}
use Rattle.verifier.specs.declared.acts.Change.{Change}
use Rattle.verifier.specs.Records.{seen_after}
use Rattle.verifier.specs.Seen.{Seen, counting}
use Rattle.verifier.specs.Acts.{trust_act, scan_act}
use Rattle.verifier.specs.Plans.{says, told_trusted, told_accepted}
use Rattle.bench_abstraction.specs.declared.calls.VerifierCall.{VerifierCall}
use Rattle.bench_abstraction.specs.declared.calls.VerifierCall.TheVariants as call

abbrev pub verifier_act : ℤ → VerifierCall → Seen → Act Change Reply Said
verifier_act today (call.Trust c) s = says (told_trusted c.device) (trust_act c.device c.key s)
verifier_act today (call.Scan c) s = says (told_accepted c.number) (scan_act c.number c.bytes today s)

abbrev pub verifier_kind : Kind (Unit {0}) Seen VerifierCall
verifier_kind = kind_by counting (λ u. Verifier) (λ u. seen_after) (λ u today c s. verifier_act today c s)

-- what is scanned is a list of bytes
abbrev pub IsBytesCall : VerifierCall → Type 0
IsBytesCall (call.Trust c) = Unit {0}
IsBytesCall (call.Scan c) = IsBytes c.bytes

abbrev pub AreBytes : Asked VerifierCall → Type 0
AreBytes = OfCall IsBytesCall
