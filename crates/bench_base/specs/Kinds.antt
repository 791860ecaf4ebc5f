-- What kinds of transactions have in common, and whether one was granted.
use Rattle.std.specs.Prelude.{Bool, true, false, ◌&&◌, ◌||◌}
use Rattle.bench_base.specs.declared.{words.Kind.Kind, words.Kind.TheVariants.Enrol, words.Kind.TheVariants.Reset, words.Kind.TheVariants.Audit, words.Kind.TheVariants.Refund, words.Kind.TheVariants.Withdraw, words.Verdict.Verdict, words.Verdict.TheVariants.Granted, words.Phase.Phase, words.Phase.TheVariants.Manufactured, words.Phase.TheVariants.Authorised, words.Phase.TheVariants.InService}

-- whether the two are one kind
unfoldable pub same_kind : Kind → Kind → Bool
same_kind Enrol Enrol = true
same_kind Reset Reset = true
same_kind Audit Audit = true
same_kind Refund Refund = true
same_kind Withdraw Withdraw = true
same_kind _ _ = false

-- a refund or a withdrawal takes all that is left on a device
abbrev pub empties : Kind → Bool
empties k = same_kind k Refund || same_kind k Withdraw

-- whether the verdict grants what was asked
abbrev pub is_granted : Verdict → Bool
is_granted Granted = true
is_granted _ = false

-- a granted reset or audit sets a new deadline
abbrev pub is_dated : Verdict → Kind → Bool
is_dated v k = is_granted v && (same_kind k Reset || same_kind k Audit)

-- the stored phases that allow to ask for a kind
abbrev pub is_allowed : Kind → Phase → Bool
is_allowed Enrol Manufactured = true
is_allowed Audit Authorised = true
is_allowed Audit InService = true
is_allowed Withdraw Authorised = true
is_allowed Withdraw InService = true
is_allowed Reset InService = true
is_allowed Refund InService = true
is_allowed _ _ = false
