-- The desk of claims, as a desk.
use Rattle.std.specs.Prelude.{◌≡◌}
use Rattle.bench_base.specs.declared.events.Reply.{Reply}
use Rattle.nv_model.specs.declared.nv.Nv as nv
use Rattle.line_extensions.specs.declared.extension.Extension.{Ghosts}
use Rattle.spoil_claims.specs.ClaimLines.{IsClaimLine}
use Rattle.spoil_claims.specs.Courses.{stored}
use Rattle.spoil_claims.specs.Moves.{Keeper, Begins, GoesOn}
use Rattle.spoil_claims.specs.Texts.{said_texts}
use Rattle.spoil_claims.specs.declared.{claim.ClaimLine.ClaimLine, desk.Desk.Desk}

-- whoever keeps claims, as a desk
abbrev pub by_keeper : {S : Type 0} → Keeper S → Ghosts S Reply
by_keeper f = record {
  Own = ClaimLine;
  IsOwn = IsClaimLine;
  MayWant = λ own. ⊥;
  Passes = λ k line. (own : ClaimLine) → IsClaimLine own line → ⊥;
  Begins = λ k own next t. Begins f k own next t;
  Goes = λ k turn next t. GoesOn f (f.said k) turn.reply k next t;
  Sees = λ k e turn t. t ≡ k;
  texts = λ k. said_texts (f.said k);
  left = λ k. 0;
}

-- the one that keeps them in its storage
abbrev pub claims_desk : {N : Type 0} (g : nv.Ghosts N) → Ghosts (Desk N g) Reply
claims_desk g = by_keeper (stored g)
