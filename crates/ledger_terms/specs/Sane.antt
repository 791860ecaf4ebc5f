-- Answers that are never given if devices and centre are honest.
use Rattle.std.specs.Prelude.{◌≡◌, Bool, true, false}
use Rattle.bench_base.specs.declared.{words.Verdict.Verdict, words.Verdict.TheVariants.Imbalance, refusals.DevRefusal.DevRefusal, refusals.DevRefusal.TheVariants.Stray, refusals.CentreRefusal.CentreRefusal, refusals.CentreRefusal.TheVariants.Ahead, refusals.CentreRefusal.TheVariants.Changed, events.Reply.Reply, questions.Refusal.TheVariants.Device as OfDevice, questions.Refusal.TheVariants.Centre as OfCentre, questions.Report.Report}
use Rattle.bench_base.specs.declared.questions.Report.TheVariants as report
use Rattle.bench_base.specs.Replies.{report_of}

-- a Reply to another Request than the one that is outstanding
abbrev pub IsSaneDevice : DevRefusal → Type 0
IsSaneDevice (Stray kind) = ⊥
IsSaneDevice x = Unit {0}

-- a number that the device hasn't reached, or another Request under a number that was ruled
abbrev pub IsSaneCentre : CentreRefusal → Type 0
IsSaneCentre (Ahead n) = ⊥
IsSaneCentre (Changed n) = ⊥
IsSaneCentre x = Unit {0}

abbrev pub is_imbalance : Verdict → Bool
is_imbalance Imbalance = true
is_imbalance _ = false

-- never `stray`, `ahead` or `changed`, never a storage that is damaged, and no ruling that the sums disagree
abbrev pub IsSaneReport : Report → Type 0
IsSaneReport (report.Refusal (OfDevice x)) = IsSaneDevice x
IsSaneReport (report.Refusal (OfCentre x)) = IsSaneCentre x
IsSaneReport (report.Ruling v k) = is_imbalance v ≡ false
IsSaneReport (report.Verdict v) = is_imbalance v ≡ false
IsSaneReport (report.Damage n) = ⊥
IsSaneReport _ = Unit {0}

abbrev pub IsSane : Reply → Type 0
IsSane x = IsSaneReport (report_of x)
