-- The model of the checker of manifests: it keeps the manifest that was opened last, and what it said.
use Rattle.std.specs.Prelude.{◌≡◌, ℕ, List, [], ◌∷◌, ◌++◌, Option, codes, decimal}
use Rattle.bench_base.specs.declared.{words.Node.TheVariants.Verifier, events.Reply.Reply}
use Rattle.mail_manifest.specs.Listings.{Listing}
use Rattle.mail_manifest.specs.ManifestLines.{IsManifestLine}
use Rattle.mail_manifest.specs.Moves.{Begins, GoesOn}
use Rattle.mail_manifest.specs.Texts.{said_texts, no_piece_text}
use Rattle.mail_manifest.specs.View.{listing_of, said_of}
use Rattle.mail_manifest.specs.declared.{checker.Checker.Checker, opening.ManifestLine.ManifestLine, answer.Answer.Answer}
use Rattle.trace_bench.specs.Prefixes.{IsFailure}
use Rattle.trace_extensions.specs.Models.{Model}

pub record ManifestView : Type 0 where
  -- the manifest that was opened last
  pub listing : Option Listing
  -- what it answered last, or waits for
  pub said : Answer

abbrev pub view_listing : ManifestView → Option Listing
view_listing v = v.listing

abbrev pub view_said : ManifestView → Answer
view_said v = v.said

-- what a checker keeps and says
abbrev pub manifest_view : Checker → ManifestView
manifest_view k = record { listing = listing_of k; said = said_of k }

abbrev pub manifest_model : Model ManifestView
manifest_model = record {
  IsOwn = λ line. (own : ManifestLine) × IsManifestLine own line;
  Passes = λ v line. (own : ManifestLine) → IsManifestLine own line → ⊥;
  Begins = λ v line next w. (own : ManifestLine) × IsManifestLine own line × Begins view_listing view_said v own next w;
  Goes = λ v turn next w. GoesOn view_listing view_said v.said turn.reply v next w;
  Sees = λ v turn w. w ≡ v;
  texts = λ v. said_texts v.said;
  Alike = λ v w. Unit {0};
}

-- what the answer of a check begins with if the scan of the piece of this number is not accepted
abbrev pub no_piece_front : ℕ → List ℕ
no_piece_front number = codes "manifest no piece" ++ 32 ∷ (decimal number ++ 32 ∷ [])

-- the line tells that the verifier failed in the scan of the piece of this number, with this reply
abbrev pub ManifestFails : ℕ → List ℕ → Reply → Type 0
ManifestFails number line reply = (line ≡ no_piece_text number reply) × IsFailure reply Verifier
