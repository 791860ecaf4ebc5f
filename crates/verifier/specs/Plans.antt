-- How each call of the verifier is reported, and what the ledger plans for it: its act, by what is looked up in the commits, the newest first.
use Rattle.std.specs.Prelude.{ℕ, ℤ, ◌+◌, List, length, Option, unwrap_or}
use Rattle.bench_base.specs.declared.{sizes.TheConstants.FIRST_BLOCK, ledger.Commit.Commit, events.Reply.Reply}
use Rattle.bench_base.specs.declared.events.Reply.TheVariants as r
use Rattle.bench_base.specs.Plans.{Plan}
use Rattle.bench_base.specs.Scans.{trusted, accepted, block_of, block_place, blocks}
use Rattle.node_acts.specs.declared.{act.Act.Act, said.Said.Said}
use Rattle.node_acts.specs.Said.{replies, saying, said_plan}
use Rattle.verifier.specs.declared.{acts.Accepted.Accepted, acts.Change.Change, acts.Spot.Spot}
use Rattle.verifier.specs.Acts.{ScanAct, LookUps, trust_by, scan_by}

-- == what is reported ==

-- an act, by how it says what it answers
abbrev pub says : {A : Type 0} → (A → Said) → ScanAct A → Act Change Reply Said
says say act = saying r.ScanRefused say act

-- the reply to a key that is trusted
abbrev pub told_trusted : ℕ → Unit {0} → Said
told_trusted d u = replies (r.Trusted d)

-- of a piece that was scanned under number n
abbrev pub told_accepted : ℕ → Accepted → Said
told_accepted n a = replies (r.Accepted a.device a.piece n a.again)

-- == what is planned ==

-- in the cell of its block, which has this place among the blocks in use, or in the next one; and the scan under which it was accepted
abbrev pub spot_after : List (ℕ × ℕ) → Option ℕ → Option ℕ → Spot
spot_after xs place first = record { cell = FIRST_BLOCK + unwrap_or place (length xs); accepted = first }

-- what the verifier looks up, in a list of commits
abbrev pub in_commits : List Commit → LookUps
in_commits C = record {
  key = λ d. trusted d C;
  spot = λ d piece. spot_after (blocks C) (block_place d (block_of piece) (blocks C)) (accepted d piece C);
}

-- the plan of trusting a key
abbrev pub trust_plan : ℕ → List ℕ → List Commit → Plan
trust_plan d key C = said_plan (says (told_trusted d) (trust_by d key (in_commits C)))

-- bytes that are scanned under a number
abbrev pub scan_plan : ℕ → List ℕ → ℤ → List Commit → Plan
scan_plan n bytes today C = said_plan (says (told_accepted n) (scan_by n bytes today (in_commits C)))
