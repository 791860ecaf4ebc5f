-- The words of a refusal determine it.
use Rattle.std.proofs.Common.{◌≡◌, ℕ, List, cond, refl, ap, arith, codes}
use Rattle.bench_base.specs.declared.{words.Phase.Phase, words.JobState.JobState, refusals.Unread.Unread, refusals.DevRefusal.DevRefusal, refusals.CentreRefusal.CentreRefusal, refusals.HostRefusal.HostRefusal, refusals.ScanRefusal.ScanRefusal, refusals.MarkFault.MarkFault}
use Rattle.bench_base.specs.declared.words.Phase.TheVariants as phase
use Rattle.bench_base.specs.declared.words.JobState.TheVariants as state
use Rattle.bench_base.specs.declared.refusals.Unread.TheVariants as unread
use Rattle.bench_base.specs.declared.refusals.DevRefusal.TheVariants as dev
use Rattle.bench_base.specs.declared.refusals.CentreRefusal.TheVariants as centre
use Rattle.bench_base.specs.declared.refusals.RateRefusal.TheVariants as rate
use Rattle.bench_base.specs.declared.refusals.HostRefusal.TheVariants as host
use Rattle.bench_base.specs.declared.refusals.ScanRefusal.TheVariants as scan
use Rattle.bench_base.specs.declared.refusals.MarkFault.TheVariants as fault
use Rattle.script_text.specs.Refusals.{phase_word, state_word, unread_word, fault_word, dev_parts, centre_parts, host_parts, scan_parts, dev_words, centre_words, host_words, scan_words, AreWhole}
use Rattle.script_text.specs.Texts.{told_fault, told_refusal}
use Rattle.script_text.proofs.ReadBack.{same, at, number_in, kind_in, signed_in, number_again, word_again, class_again, small_again, kind_again, signed_again}
use Rattle.script_text.proofs.PrintedWords.{word_small}

abbrev pub phase_in : List ℕ → Phase
phase_in w = cond (same w (codes "blank")) phase.Blank (cond (same w (codes "manufactured")) phase.Manufactured (cond (same w (codes "authorised")) phase.Authorised (cond (same w (codes "in-service")) phase.InService (cond (same w (codes "locked")) phase.Locked phase.Withdrawn))))

abbrev pub state_in : List ℕ → JobState
state_in w = cond (same w (codes "ordered")) state.Ordered (cond (same w (codes "held")) state.Held (cond (same w (codes "begun")) state.Begun state.Closed))

abbrev pub unread_in : List ℕ → Unread
unread_in w = cond (same w (codes "length")) unread.Length (cond (same w (codes "version")) unread.Version (cond (same w (codes "tag")) unread.Tag (cond (same w (codes "kind")) unread.Kind (cond (same w (codes "verdict")) unread.Verdict (cond (same w (codes "day")) unread.Day unread.Mark)))))

abbrev pub fault_in : List ℕ → MarkFault
fault_in w = cond (same w (codes "length")) (fault.Length 0) (cond (same w (codes "version")) (fault.Version 0) (fault.Algorithm 0))

pub phase_again : (x : Phase) → phase_in (phase_word x) ≡ x
phase_again phase.Blank = refl
phase_again phase.Manufactured = refl
phase_again phase.Authorised = refl
phase_again phase.InService = refl
phase_again phase.Locked = refl
phase_again phase.Withdrawn = refl

pub state_again : (x : JobState) → state_in (state_word x) ≡ x
state_again state.Ordered = refl
state_again state.Held = refl
state_again state.Begun = refl
state_again state.Closed = refl

pub unread_again : (x : Unread) → unread_in (unread_word x) ≡ x
unread_again unread.Length = refl
unread_again unread.Version = refl
unread_again unread.Tag = refl
unread_again unread.Kind = refl
unread_again unread.Verdict = refl
unread_again unread.Day = refl
unread_again unread.Mark = refl

pub fault_again : (x : MarkFault) → fault_in (fault_word x) ≡ told_fault x
fault_again (fault.Length n) = refl
fault_again (fault.Version n) = refl
fault_again (fault.Algorithm n) = refl

-- ---- refusals

abbrev pub dev_in : List (List ℕ) → DevRefusal
dev_in ws =
    cond (same (at ws 0) (codes "blank")) dev.Blank
    (cond (same (at ws 0) (codes "made")) dev.Made
    (cond (same (at ws 0) (codes "wrong")) (cond (same (at ws 1) (codes "device")) (dev.WrongDevice (number_in (at ws 2))) (dev.WrongPiece (number_in (at ws 2))))
    (cond (same (at ws 0) (codes "conflict")) (dev.Conflict (number_in (at ws 1)) (number_in (at ws 2)))
    (cond (same (at ws 0) (codes "phase")) (dev.Phase (phase_in (at ws 1)))
    (cond (same (at ws 0) (codes "frozen")) (dev.Frozen (kind_in (at ws 1)))
    (cond (same (at ws 0) (codes "clock")) (dev.ClockBack (signed_in (at ws 2)))
    (cond (same (at ws 0) (codes "due")) (dev.Due (signed_in (at ws 1)))
    (cond (same (at ws 0) (codes "bad")) (cond (same (at ws 1) (codes "amount")) (dev.BadAmount (number_in (at ws 2))) dev.BadCode)
    (cond (same (at ws 0) (codes "no")) (dev.NoFunds (number_in (at ws 2)))
    (cond (same (at ws 0) (codes "busy")) (dev.Busy (kind_in (at ws 1)))
    (cond (same (at ws 0) (codes "total")) (dev.TotalFull (number_in (at ws 2)))
    (cond (same (at ws 0) (codes "number")) dev.NumberFull
    (cond (same (at ws 0) (codes "nothing")) (cond (same (at ws 1) (codes "pending")) dev.NothingPending dev.NothingDone)
    (cond (same (at ws 0) (codes "stale")) (dev.Stale (number_in (at ws 1)))
    (cond (same (at ws 0) (codes "stray")) (dev.Stray (kind_in (at ws 1)))
    (dev.Unread (unread_in (at ws 1))))))))))))))))))

pub dev_again : (r : DevRefusal) → AreWhole (dev_parts r) → dev_in (dev_words r) ≡ r
unfolding dev_words
dev_again dev.Blank h = refl
dev_again dev.Made h = refl
dev_again (dev.WrongDevice d) h = let e0 = word_again d h.0 in cc
dev_again (dev.Conflict postage class) h = let e0 = word_again postage h.0 in let e1 = class_again class h.1.0 in cc
dev_again (dev.WrongPiece pieces) h = let e0 = word_again pieces h.0 in cc
dev_again (dev.Phase p) h = let e0 = phase_again p in cc
dev_again (dev.Frozen k) h = let e0 = kind_again k in cc
dev_again (dev.ClockBack t) h = let e0 = signed_again t (word_small t h.0) in cc
dev_again (dev.Due t) h = let e0 = signed_again t (word_small t h.0) in cc
dev_again (dev.BadAmount amount) h = let e0 = word_again amount h.0 in cc
dev_again (dev.NoFunds descending) h = let e0 = number_again descending h.0 in cc
dev_again (dev.Busy k) h = let e0 = kind_again k in cc
dev_again (dev.TotalFull total) h = let e0 = number_again total h.0 in cc
dev_again dev.NumberFull h = refl
dev_again dev.NothingPending h = refl
dev_again (dev.Stale number) h = let e0 = word_again number h.0 in cc
dev_again (dev.Stray k) h = let e0 = kind_again k in cc
dev_again dev.NothingDone h = refl
dev_again dev.BadCode h = refl
dev_again (dev.Unread cause) h = let e0 = unread_again cause in cc

abbrev pub centre_in : List (List ℕ) → CentreRefusal
centre_in ws =
    cond (same (at ws 0) (codes "unread")) (centre.Unread (unread_in (at ws 1)))
    (cond (same (at ws 0) (codes "unknown")) (cond (same (at ws 1) (codes "device")) (centre.UnknownDevice (number_in (at ws 2))) (centre.UnknownCustomer (number_in (at ws 2))))
    (cond (same (at ws 0) (codes "bad")) (cond (same (at ws 1) (codes "code")) centre.BadCode (centre.BadAmount (number_in (at ws 2))))
    (cond (same (at ws 0) (codes "old")) (centre.Old (number_in (at ws 1)))
    (cond (same (at ws 0) (codes "ahead")) (centre.Ahead (number_in (at ws 1)))
    (cond (same (at ws 0) (codes "changed")) (centre.Changed (number_in (at ws 1)))
    (cond (same (at ws 0) (codes "known")) centre.Known
    (cond (same (at ws 0) (codes "wrong")) (centre.WrongReceipt (number_in (at ws 2)))
    (cond (same (at ws 0) (codes "conflict")) (centre.Conflict (number_in (at ws 1)))
    (centre.DepositsFull (number_in (at ws 2)))))))))))

pub centre_again : (r : CentreRefusal) → AreWhole (centre_parts r) → centre_in (centre_words r) ≡ r
unfolding centre_words
centre_again (centre.Unread cause) h = let e0 = unread_again cause in cc
centre_again (centre.UnknownDevice d) h = let e0 = word_again d h.0 in cc
centre_again (centre.UnknownCustomer c) h = let e0 = small_again c 64 (omega arith) h.0 in cc
centre_again centre.BadCode h = refl
centre_again (centre.Old number) h = let e0 = word_again number h.0 in cc
centre_again (centre.Ahead number) h = let e0 = word_again number h.0 in cc
centre_again (centre.Changed number) h = let e0 = word_again number h.0 in cc
centre_again centre.Known h = refl
centre_again (centre.WrongReceipt receipt) h = let e0 = word_again receipt h.0 in cc
centre_again (centre.Conflict amount) h = let e0 = word_again amount h.0 in cc
centre_again (centre.BadAmount amount) h = let e0 = word_again amount h.0 in cc
centre_again (centre.DepositsFull total) h = let e0 = number_again total h.0 in cc

abbrev pub host_in : List (List ℕ) → HostRefusal
host_in ws =
    cond (same (at ws 0) (codes "no")) (cond (same (at ws 1) (codes "rates")) host.NoRates (cond (same (at ws 1) (codes "job")) host.NoJob (cond (same (at ws 1) (codes "class")) (host.Rate rate.NoClass) (host.Rate (rate.NoZone (number_in (at ws 2)))))))
    (cond (same (at ws 0) (codes "open")) (host.OpenJob (number_in (at ws 2)))
    (cond (same (at ws 0) (codes "piece")) (host.Used (number_in (at ws 2)))
    (cond (same (at ws 0) (codes "jobs")) (host.JobsFull (number_in (at ws 2)))
    (cond (same (at ws 0) (codes "number")) host.NumberFull
    (cond (same (at ws 0) (codes "state")) (host.State (state_in (at ws 1)))
    (cond (same (at ws 0) (codes "unread")) (host.Unread (unread_in (at ws 1)))
    (cond (same (at ws 0) (codes "other")) (cond (same (at ws 1) (codes "piece")) (host.OtherPiece (number_in (at ws 2))) (cond (same (at ws 1) (codes "postage")) (host.OtherPostage (number_in (at ws 2))) (host.OtherClass (number_in (at ws 2)))))
    (host.Rate (rate.TooHeavy (number_in (at ws 2)))))))))))

pub host_again : (r : HostRefusal) → AreWhole (host_parts r) → host_in (host_words r) ≡ r
unfolding host_words
host_again host.NoRates h = refl
host_again (host.OpenJob j) h = let e0 = word_again j h.0 in cc
host_again (host.Used piece) h = let e0 = word_again piece h.0 in cc
host_again (host.JobsFull j) h = let e0 = word_again j h.0 in cc
host_again host.NumberFull h = refl
host_again host.NoJob h = refl
host_again (host.State s) h = let e0 = state_again s in cc
host_again (host.Unread cause) h = let e0 = unread_again cause in cc
host_again (host.OtherPiece piece) h = let e0 = word_again piece h.0 in cc
host_again (host.OtherPostage postage) h = let e0 = word_again postage h.0 in cc
host_again (host.OtherClass class) h = let e0 = class_again class h.0 in cc
host_again (host.Rate rate.NoClass) h = refl
host_again (host.Rate (rate.NoZone zones)) h = ap (λ (n : ℕ). host.Rate (rate.NoZone n)) (word_again zones h.0)
host_again (host.Rate (rate.TooHeavy grams)) h = ap (λ (n : ℕ). host.Rate (rate.TooHeavy n)) (word_again grams h.0)

abbrev pub scan_in : List (List ℕ) → ScanRefusal
scan_in ws =
    cond (same (at ws 0) (codes "unread")) (scan.Unread (fault_in (at ws 1)))
    (cond (same (at ws 0) (codes "unknown")) (scan.Unknown (number_in (at ws 2)))
    (cond (same (at ws 0) (codes "bad")) scan.BadCode
    (cond (same (at ws 0) (codes "duplicate")) (scan.Duplicate (number_in (at ws 1)))
    (cond (same (at ws 0) (codes "future")) (scan.Future (signed_in (at ws 1)))
    (cond (same (at ws 0) (codes "too")) (scan.TooOld (signed_in (at ws 2)))
    (cond (same (at ws 0) (codes "blocks")) scan.BlocksFull
    scan.Known))))))

pub scan_again : (r : ScanRefusal) → AreWhole (scan_parts r) → scan_in (scan_words r) ≡ told_refusal r
unfolding scan_words
scan_again (scan.Unread fault) h = let e0 = fault_again fault in cc
scan_again (scan.Unknown d) h = let e0 = word_again d h.0 in cc
scan_again scan.BadCode h = refl
scan_again (scan.Duplicate scan) h = let e0 = word_again scan h.0 in cc
scan_again (scan.Future t) h = let e0 = signed_again t (word_small t h.0) in cc
scan_again (scan.TooOld t) h = let e0 = signed_again t (word_small t h.0) in cc
scan_again scan.BlocksFull h = refl
scan_again scan.Known h = refl
