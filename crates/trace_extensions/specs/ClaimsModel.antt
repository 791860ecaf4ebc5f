-- The model of the desk of claims: how it moves by the claims that it keeps and by what it says, and what its answer tells of a scan.
use Rattle.std.specs.Prelude.{◌≡◌, ℕ, ◌-◌, List, Bool, true, false}
use Rattle.bench_base.specs.declared.{words.Node.TheVariants.Verifier, events.Reply.Reply}
use Rattle.nv_model.specs.declared.nv.Nv as nv
use Rattle.node_acts.specs.RowList.{is_worn, put}
use Rattle.script_text.specs.Texts.{text_of}
use Rattle.line_extensions.specs.declared.{extension.Next.Next, extension.Next.TheVariants.Say}
use Rattle.spoil_claims.specs.ClaimLines.{IsClaimLine}
use Rattle.spoil_claims.specs.Claims.{Claims}
use Rattle.spoil_claims.specs.Moves.{Keeper, Begins, GoesOn}
use Rattle.spoil_claims.specs.Texts.{said_texts}
use Rattle.spoil_claims.specs.View.{said_of, rows_of}
use Rattle.spoil_claims.specs.declared.{claim.ClaimLine.ClaimLine, claim.ClaimRow.ClaimRow, desk.Desk.Desk, answer.Answer.Answer}
use Rattle.spoil_claims.specs.declared.answer.Answer.TheVariants as answers
use Rattle.trace_bench.specs.Prefixes.{IsFailure}
use Rattle.trace_extensions.specs.Models.{Model}

-- the claims that are kept, and what was answered last or is waited for
pub record Standing : Type 0 where
  pub rows : Claims
  pub said : Answer

abbrev pub standing : Claims → Answer → Standing
standing rows said = record { rows = rows; said = said }

-- of a desk, whatever its storage is
abbrev pub claims_view : {N : Type 0} {g : nv.Ghosts N} → Desk N g → Standing
claims_view k = standing (rows_of k) (said_of k)

-- a commit of this claim, by whether its cell is worn: that is answered, or the claim is kept and what was meant to follows
abbrev pub ByWorn : Bool → ClaimRow → Answer → Next → Standing → Next → Standing → Type 0
ByWorn true x meant then old next new = (next ≡ Say) × (new ≡ standing old.rows answers.Worn)
ByWorn false x meant then old next new = (next ≡ then) × (new ≡ standing (put old.rows (x.claim - 1) x) meant)

-- no commit fails
abbrev pub standing_keeper : Keeper Standing
standing_keeper = record {
  rows = λ v. v.rows;
  said = λ v. v.said;
  Rests = λ old new. new.rows ≡ old.rows;
  Tries = λ x meant then old next new. ByWorn (is_worn old.rows (x.claim - 1)) x meant then old next new;
}

abbrev pub claims_model : Model Standing
claims_model = record {
  IsOwn = λ line. (own : ClaimLine) × IsClaimLine own line;
  Passes = λ v line. (own : ClaimLine) → IsClaimLine own line → ⊥;
  Begins = λ v line next w. (own : ClaimLine) × IsClaimLine own line × Begins standing_keeper v own next w;
  Goes = λ v turn next w. GoesOn standing_keeper v.said turn.reply v next w;
  Sees = λ v turn w. w ≡ v;
  texts = λ v. said_texts v.said;
  Alike = λ v w. v.rows ≡ w.rows;
}

-- the line tells this failure of the verifier, whatever the number of the step is: a claim has one scan
abbrev pub ClaimFails : ℕ → List ℕ → Reply → Type 0
ClaimFails number line reply = (line ≡ text_of reply) × IsFailure reply Verifier
