-- The words of the meter under which a script has lines of its own; and what is kept beside a bench from one run to the next.
use Rattle.std.specs.Prelude.{◌≡◌, None}
use Rattle.spoil_claims.specs.Claims.{Claims}
use Rattle.host_departments.specs.Rows.{Rows}
use Rattle.centre_statement.specs.Desk.{View as StatementView, fresh}
use Rattle.trace_extensions.specs.Models.{Model}
use Rattle.trace_extensions.specs.ClaimsModel.{Standing, claims_model}
use Rattle.trace_extensions.specs.DepartmentsModel.{Kept, departments_model}
use Rattle.trace_extensions.specs.ManifestModel.{ManifestView, manifest_model}
use Rattle.trace_extensions.specs.StatementModel.{statement_model}

pub data Word : Type 0 where
  OfClaims : Word
  OfDepartments : Word
  OfManifests : Word
  OfStatements : Word

-- the claims, and the quotas and jobs
pub record Beside : Type 0 where
  pub claims : Claims
  pub departments : Rows

-- what the extension of a word keeps and says
abbrev pub View : Word → Type 0
View OfClaims = Standing
View OfDepartments = Kept
View OfManifests = ManifestView
View OfStatements = StatementView

abbrev pub model_of : (w : Word) → Model (View w)
model_of OfClaims = claims_model
model_of OfDepartments = departments_model
model_of OfManifests = manifest_model
model_of OfStatements = statement_model

-- A run begins with the claims, or the quotas and jobs, that are kept, whatever was said last. It begins with no manifest, and with a desk of statements
-- that has seen nothing.
abbrev pub StartsWith : (w : Word) → Beside → View w → Type 0
StartsWith OfClaims k v = k.claims ≡ v.rows
StartsWith OfDepartments k v = k.departments ≡ v.rows
StartsWith OfManifests k v = None ≡ v.listing
StartsWith OfStatements k v = fresh ≡ v

-- what is kept after it
abbrev pub left_beside : (w : Word) → Beside → View w → Beside
left_beside OfClaims k v = record k { claims = v.rows }
left_beside OfDepartments k v = record k { departments = v.rows }
left_beside OfManifests k v = k
left_beside OfStatements k v = k
