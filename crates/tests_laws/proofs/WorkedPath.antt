-- The ordinary path, computed: each step is the answer and the entries of the definitions, hashes included.
use Rattle.std.specs.Prelude.{drop, pos, [], ◌∷◌}
use Rattle.bench_base.specs.declared.{words.Node.TheVariants.Device, words.Node.TheVariants.Centre, words.Node.TheVariants.Host, words.Node.TheVariants.Verifier, words.Verdict.TheVariants.Granted}
use Rattle.bench_base.specs.declared.ledger.Commit.TheVariants as c
use Rattle.bench_base.specs.declared.ledger.Entry.TheVariants as e
use Rattle.bench_base.specs.Rules.{first_rules}
use Rattle.bench_base.specs.Ledger.{Ledger}
use Rattle.std.proofs.Common.{refl, inl, lit<, lit≤, arith}
use Rattle.std.proofs.lemmas.Int.{ints}
use Rattle.bench_base.specs.Ranges.{IsKey}
use Rattle.bench_base.specs.Table.{number, spelled}
use Rattle.bench_base.specs.Kinds.{same_kind}
use Rattle.bench_base.specs.Cells.{is_worn}
use Rattle.hmac_core.specs.Hmac.{hmac}
use Rattle.sha2.specs.Sha256.{first_words, schedule, rounds, compress, hash_after, digest_bytes, sha256}
use Rattle.indicium.specs.Marks as marks
use Rattle.psd_wire.specs.Grammar.{read, spell, body, request_at, reply_at, done_at, debit_at, release_at, kind_of, verdict_of, size_of, day_of}
use Rattle.psd_wire.specs.Codes.{has_code}
use Rattle.ledger_terms.specs.Requests.{request_in}
use Rattle.ledger_terms.specs.Sums.{adds, takes}
use Rattle.ledger_terms.specs.Centres.{customer_sum}
use Rattle.ledger_terms.specs.Rulings.{verdict, verdict_by, reply_to}
use Rattle.ledger_terms.specs.Franking.{mark_after}
use Rattle.ledger_moves.specs.Moves.{plan}
use Rattle.tests_laws.specs.Runs.{IsRow, sample}
use Rattle.tests_laws.specs.Rows.{key1, rates1, enrol_1, enrol_granted, audit_2, audit_granted, reset_3, done_3, debit_1, mark_1, release_1, first_steps, ordinary_ledger, ordinary_steps, reply_lost_start, settled_ledger, settling_steps}
use Rattle.tests_laws.proofs.Bytes.{bytes_below}
use Rattle.tests_laws.proofs.Runs.{row_done, row_step}

key : IsKey key1
key = (refl, bytes_below key1 refl)

-- == first ==

abbrev first_1 : Ledger
first_1 = e.Day (pos 20513) ∷ []

abbrev first_2 : Ledger
first_2 = e.Rates rates1 ∷ first_1

abbrev first_3 : Ledger
first_3 = e.Up Centre 0 ∷ first_2

abbrev first_4 : Ledger
first_4 = e.Up Host 0 ∷ first_3

abbrev first_5 : Ledger
first_5 = e.Up Verifier 0 ∷ first_4

abbrev first_6 : Ledger
first_6 = e.Up (Device 1) 0 ∷ first_5

abbrev first_7 : Ledger
first_7 = e.Commit (c.Made 1 key1) ∷ first_6

abbrev first_8 : Ledger
first_8 = e.Commit (c.Registered 1 94105 key1) ∷ first_7

abbrev first_9 : Ledger
first_9 = e.Commit (c.Trusted 1 key1) ∷ first_8

abbrev first_10 : Ledger
first_10 = e.Commit (c.Opened 1) ∷ first_9

abbrev first_11 : Ledger
first_11 = e.Commit (c.Deposited 1 1 100000) ∷ first_10

abbrev first_12 : Ledger
first_12 = e.Sent enrol_1 ∷ e.Commit (c.Asked 1 1 enrol_1) ∷ first_11

abbrev first_13 : Ledger
first_13 = e.Sent enrol_granted ∷ e.Commit (c.Ruled 1 1 Granted enrol_1) ∷ first_12

abbrev first_14 : Ledger
first_14 = e.Commit (c.Applied 1 1 Granted) ∷ first_13

abbrev first_15 : Ledger
first_15 = e.Sent audit_2 ∷ e.Commit (c.Asked 1 2 audit_2) ∷ first_14

abbrev first_16 : Ledger
first_16 = e.Sent audit_granted ∷ e.Commit (c.Ruled 1 2 Granted audit_2) ∷ first_15

abbrev first_17 : Ledger
first_17 = e.Commit (c.Applied 1 2 Granted) ∷ first_16

abbrev first_18 : Ledger
first_18 = e.Sent reset_3 ∷ e.Commit (c.Asked 1 3 reset_3) ∷ first_17

first_step_0 : IsRow sample first_rules (drop 1 first_steps) first_1 reply_lost_start → IsRow sample first_rules (drop 0 first_steps) [] reply_lost_start
unfolding plan read spell body number spelled request_at reply_at done_at debit_at release_at kind_of verdict_of size_of day_of marks.body marks.spell marks.mark_at marks.read_mark has_code hmac first_words schedule rounds compress hash_after digest_bytes sha256 request_in adds takes verdict verdict_by reply_to mark_after customer_sum same_kind is_worn
first_step_0 r = row_step sample first_rules _ _ [] first_1 reply_lost_start tt ((omega (arith, ints), omega (arith, ints)), inl refl) refl r

first_step_1 : IsRow sample first_rules (drop 2 first_steps) first_2 reply_lost_start → IsRow sample first_rules (drop 1 first_steps) first_1 reply_lost_start
unfolding plan read spell body number spelled request_at reply_at done_at debit_at release_at kind_of verdict_of size_of day_of marks.body marks.spell marks.mark_at marks.read_mark has_code hmac first_words schedule rounds compress hash_after digest_bytes sha256 request_in adds takes verdict verdict_by reply_to mark_after customer_sum same_kind is_worn
first_step_1 r = row_step sample first_rules _ _ first_1 first_2 reply_lost_start tt (tt, inl refl) refl r

first_step_2 : IsRow sample first_rules (drop 3 first_steps) first_3 reply_lost_start → IsRow sample first_rules (drop 2 first_steps) first_2 reply_lost_start
unfolding plan read spell body number spelled request_at reply_at done_at debit_at release_at kind_of verdict_of size_of day_of marks.body marks.spell marks.mark_at marks.read_mark has_code hmac first_words schedule rounds compress hash_after digest_bytes sha256 request_in adds takes verdict verdict_by reply_to mark_after customer_sum same_kind is_worn
first_step_2 r = row_step sample first_rules _ _ first_2 first_3 reply_lost_start tt (tt, inl refl) refl r

first_step_3 : IsRow sample first_rules (drop 4 first_steps) first_4 reply_lost_start → IsRow sample first_rules (drop 3 first_steps) first_3 reply_lost_start
unfolding plan read spell body number spelled request_at reply_at done_at debit_at release_at kind_of verdict_of size_of day_of marks.body marks.spell marks.mark_at marks.read_mark has_code hmac first_words schedule rounds compress hash_after digest_bytes sha256 request_in adds takes verdict verdict_by reply_to mark_after customer_sum same_kind is_worn
first_step_3 r = row_step sample first_rules _ _ first_3 first_4 reply_lost_start tt (tt, inl refl) refl r

first_step_4 : IsRow sample first_rules (drop 5 first_steps) first_5 reply_lost_start → IsRow sample first_rules (drop 4 first_steps) first_4 reply_lost_start
unfolding plan read spell body number spelled request_at reply_at done_at debit_at release_at kind_of verdict_of size_of day_of marks.body marks.spell marks.mark_at marks.read_mark has_code hmac first_words schedule rounds compress hash_after digest_bytes sha256 request_in adds takes verdict verdict_by reply_to mark_after customer_sum same_kind is_worn
first_step_4 r = row_step sample first_rules _ _ first_4 first_5 reply_lost_start tt (tt, inl refl) refl r

first_step_5 : IsRow sample first_rules (drop 6 first_steps) first_6 reply_lost_start → IsRow sample first_rules (drop 5 first_steps) first_5 reply_lost_start
unfolding plan read spell body number spelled request_at reply_at done_at debit_at release_at kind_of verdict_of size_of day_of marks.body marks.spell marks.mark_at marks.read_mark has_code hmac first_words schedule rounds compress hash_after digest_bytes sha256 request_in adds takes verdict verdict_by reply_to mark_after customer_sum same_kind is_worn
first_step_5 r = row_step sample first_rules _ _ first_5 first_6 reply_lost_start tt ((lit≤ tt, lit≤ tt), inl refl) refl r

first_step_6 : IsRow sample first_rules (drop 7 first_steps) first_7 reply_lost_start → IsRow sample first_rules (drop 6 first_steps) first_6 reply_lost_start
unfolding plan read spell body number spelled request_at reply_at done_at debit_at release_at kind_of verdict_of size_of day_of marks.body marks.spell marks.mark_at marks.read_mark has_code hmac first_words schedule rounds compress hash_after digest_bytes sha256 request_in adds takes verdict verdict_by reply_to mark_after customer_sum same_kind is_worn
first_step_6 r = row_step sample first_rules _ _ first_6 first_7 reply_lost_start tt (((lit≤ tt, lit≤ tt), key), inl refl) refl r

first_step_7 : IsRow sample first_rules (drop 8 first_steps) first_8 reply_lost_start → IsRow sample first_rules (drop 7 first_steps) first_7 reply_lost_start
unfolding plan read spell body number spelled request_at reply_at done_at debit_at release_at kind_of verdict_of size_of day_of marks.body marks.spell marks.mark_at marks.read_mark has_code hmac first_words schedule rounds compress hash_after digest_bytes sha256 request_in adds takes verdict verdict_by reply_to mark_after customer_sum same_kind is_worn
first_step_7 r = row_step sample first_rules _ _ first_7 first_8 reply_lost_start tt (((lit≤ tt, lit≤ tt), lit< tt, key), inl refl) refl r

first_step_8 : IsRow sample first_rules (drop 9 first_steps) first_9 reply_lost_start → IsRow sample first_rules (drop 8 first_steps) first_8 reply_lost_start
unfolding plan read spell body number spelled request_at reply_at done_at debit_at release_at kind_of verdict_of size_of day_of marks.body marks.spell marks.mark_at marks.read_mark has_code hmac first_words schedule rounds compress hash_after digest_bytes sha256 request_in adds takes verdict verdict_by reply_to mark_after customer_sum same_kind is_worn
first_step_8 r = row_step sample first_rules _ _ first_8 first_9 reply_lost_start tt (((lit≤ tt, lit≤ tt), key), inl refl) refl r

first_step_9 : IsRow sample first_rules (drop 10 first_steps) first_10 reply_lost_start → IsRow sample first_rules (drop 9 first_steps) first_9 reply_lost_start
unfolding plan read spell body number spelled request_at reply_at done_at debit_at release_at kind_of verdict_of size_of day_of marks.body marks.spell marks.mark_at marks.read_mark has_code hmac first_words schedule rounds compress hash_after digest_bytes sha256 request_in adds takes verdict verdict_by reply_to mark_after customer_sum same_kind is_worn
first_step_9 r = row_step sample first_rules _ _ first_9 first_10 reply_lost_start tt ((lit≤ tt, lit≤ tt), inl refl) refl r

first_step_10 : IsRow sample first_rules (drop 11 first_steps) first_11 reply_lost_start → IsRow sample first_rules (drop 10 first_steps) first_10 reply_lost_start
unfolding plan read spell body number spelled request_at reply_at done_at debit_at release_at kind_of verdict_of size_of day_of marks.body marks.spell marks.mark_at marks.read_mark has_code hmac first_words schedule rounds compress hash_after digest_bytes sha256 request_in adds takes verdict verdict_by reply_to mark_after customer_sum same_kind is_worn
first_step_10 r = row_step sample first_rules _ _ first_10 first_11 reply_lost_start tt (((lit≤ tt, lit≤ tt), lit< tt, lit< tt), inl refl) refl r

first_step_11 : IsRow sample first_rules (drop 12 first_steps) first_12 reply_lost_start → IsRow sample first_rules (drop 11 first_steps) first_11 reply_lost_start
unfolding plan read spell body number spelled request_at reply_at done_at debit_at release_at kind_of verdict_of size_of day_of marks.body marks.spell marks.mark_at marks.read_mark has_code hmac first_words schedule rounds compress hash_after digest_bytes sha256 request_in adds takes verdict verdict_by reply_to mark_after customer_sum same_kind is_worn
first_step_11 r = row_step sample first_rules _ _ first_11 first_12 reply_lost_start tt (((lit≤ tt, lit≤ tt), (lit< tt, refl)), inl refl) refl r

first_step_12 : IsRow sample first_rules (drop 13 first_steps) first_13 reply_lost_start → IsRow sample first_rules (drop 12 first_steps) first_12 reply_lost_start
unfolding plan read spell body number spelled request_at reply_at done_at debit_at release_at kind_of verdict_of size_of day_of marks.body marks.spell marks.mark_at marks.read_mark has_code hmac first_words schedule rounds compress hash_after digest_bytes sha256 request_in adds takes verdict verdict_by reply_to mark_after customer_sum same_kind is_worn
first_step_12 r = row_step sample first_rules _ _ first_12 first_13 reply_lost_start tt (lit< tt, inl refl) refl r

first_step_13 : IsRow sample first_rules (drop 14 first_steps) first_14 reply_lost_start → IsRow sample first_rules (drop 13 first_steps) first_13 reply_lost_start
unfolding plan read spell body number spelled request_at reply_at done_at debit_at release_at kind_of verdict_of size_of day_of marks.body marks.spell marks.mark_at marks.read_mark has_code hmac first_words schedule rounds compress hash_after digest_bytes sha256 request_in adds takes verdict verdict_by reply_to mark_after customer_sum same_kind is_worn
first_step_13 r = row_step sample first_rules _ _ first_13 first_14 reply_lost_start tt (lit< tt, inl refl) refl r

first_step_14 : IsRow sample first_rules (drop 15 first_steps) first_15 reply_lost_start → IsRow sample first_rules (drop 14 first_steps) first_14 reply_lost_start
unfolding plan read spell body number spelled request_at reply_at done_at debit_at release_at kind_of verdict_of size_of day_of marks.body marks.spell marks.mark_at marks.read_mark has_code hmac first_words schedule rounds compress hash_after digest_bytes sha256 request_in adds takes verdict verdict_by reply_to mark_after customer_sum same_kind is_worn
first_step_14 r = row_step sample first_rules _ _ first_14 first_15 reply_lost_start tt (((lit≤ tt, lit≤ tt), (refl, refl)), inl refl) refl r

first_step_15 : IsRow sample first_rules (drop 16 first_steps) first_16 reply_lost_start → IsRow sample first_rules (drop 15 first_steps) first_15 reply_lost_start
unfolding plan read spell body number spelled request_at reply_at done_at debit_at release_at kind_of verdict_of size_of day_of marks.body marks.spell marks.mark_at marks.read_mark has_code hmac first_words schedule rounds compress hash_after digest_bytes sha256 request_in adds takes verdict verdict_by reply_to mark_after customer_sum same_kind is_worn
first_step_15 r = row_step sample first_rules _ _ first_15 first_16 reply_lost_start tt (lit< tt, inl refl) refl r

first_step_16 : IsRow sample first_rules (drop 17 first_steps) first_17 reply_lost_start → IsRow sample first_rules (drop 16 first_steps) first_16 reply_lost_start
unfolding plan read spell body number spelled request_at reply_at done_at debit_at release_at kind_of verdict_of size_of day_of marks.body marks.spell marks.mark_at marks.read_mark has_code hmac first_words schedule rounds compress hash_after digest_bytes sha256 request_in adds takes verdict verdict_by reply_to mark_after customer_sum same_kind is_worn
first_step_16 r = row_step sample first_rules _ _ first_16 first_17 reply_lost_start tt (lit< tt, inl refl) refl r

first_step_17 : IsRow sample first_rules (drop 18 first_steps) first_18 reply_lost_start → IsRow sample first_rules (drop 17 first_steps) first_17 reply_lost_start
unfolding plan read spell body number spelled request_at reply_at done_at debit_at release_at kind_of verdict_of size_of day_of marks.body marks.spell marks.mark_at marks.read_mark has_code hmac first_words schedule rounds compress hash_after digest_bytes sha256 request_in adds takes verdict verdict_by reply_to mark_after customer_sum same_kind is_worn
first_step_17 r = row_step sample first_rules _ _ first_17 first_18 reply_lost_start tt (((lit≤ tt, lit≤ tt), (refl, lit< tt)), inl refl) refl r

first_step_18 : IsRow sample first_rules (drop 19 first_steps) reply_lost_start reply_lost_start → IsRow sample first_rules (drop 18 first_steps) first_18 reply_lost_start
unfolding plan read spell body number spelled request_at reply_at done_at debit_at release_at kind_of verdict_of size_of day_of marks.body marks.spell marks.mark_at marks.read_mark has_code hmac first_words schedule rounds compress hash_after digest_bytes sha256 request_in adds takes verdict verdict_by reply_to mark_after customer_sum same_kind is_worn
first_step_18 r = row_step sample first_rules _ _ first_18 reply_lost_start reply_lost_start tt (lit< tt, inl refl) refl r

pub first_row : IsRow sample first_rules first_steps [] reply_lost_start
first_row = first_step_0 (first_step_1 (first_step_2 (first_step_3 (first_step_4 (first_step_5 (first_step_6 (first_step_7 (first_step_8 (first_step_9 (first_step_10 (first_step_11 (first_step_12 (first_step_13 (first_step_14 (first_step_15 (first_step_16 (first_step_17 (first_step_18 (row_done sample first_rules reply_lost_start)))))))))))))))))))

-- == settling ==

abbrev settling_1 : Ledger
settling_1 = e.Commit (c.Applied 1 3 Granted) ∷ reply_lost_start

abbrev settling_2 : Ledger
settling_2 = e.Sent done_3 ∷ settling_1

settling_step_0 : IsRow sample first_rules (drop 1 settling_steps) settling_1 settled_ledger → IsRow sample first_rules (drop 0 settling_steps) reply_lost_start settled_ledger
unfolding plan read spell body number spelled request_at reply_at done_at debit_at release_at kind_of verdict_of size_of day_of marks.body marks.spell marks.mark_at marks.read_mark has_code hmac first_words schedule rounds compress hash_after digest_bytes sha256 request_in adds takes verdict verdict_by reply_to mark_after customer_sum same_kind is_worn
settling_step_0 r = row_step sample first_rules _ _ reply_lost_start settling_1 settled_ledger tt (lit< tt, inl refl) refl r

settling_step_1 : IsRow sample first_rules (drop 2 settling_steps) settling_2 settled_ledger → IsRow sample first_rules (drop 1 settling_steps) settling_1 settled_ledger
unfolding plan read spell body number spelled request_at reply_at done_at debit_at release_at kind_of verdict_of size_of day_of marks.body marks.spell marks.mark_at marks.read_mark has_code hmac first_words schedule rounds compress hash_after digest_bytes sha256 request_in adds takes verdict verdict_by reply_to mark_after customer_sum same_kind is_worn
settling_step_1 r = row_step sample first_rules _ _ settling_1 settling_2 settled_ledger tt ((lit≤ tt, lit≤ tt), inl refl) refl r

settling_step_2 : IsRow sample first_rules (drop 3 settling_steps) settled_ledger settled_ledger → IsRow sample first_rules (drop 2 settling_steps) settling_2 settled_ledger
unfolding plan read spell body number spelled request_at reply_at done_at debit_at release_at kind_of verdict_of size_of day_of marks.body marks.spell marks.mark_at marks.read_mark has_code hmac first_words schedule rounds compress hash_after digest_bytes sha256 request_in adds takes verdict verdict_by reply_to mark_after customer_sum same_kind is_worn
settling_step_2 r = row_step sample first_rules _ _ settling_2 settled_ledger settled_ledger tt (lit< tt, inl refl) refl r

pub settling_row : IsRow sample first_rules settling_steps reply_lost_start settled_ledger
settling_row = settling_step_0 (settling_step_1 (settling_step_2 (row_done sample first_rules settled_ledger)))

-- == ordinary ==

abbrev ordinary_1 : Ledger
ordinary_1 = e.Commit (c.Ordered 1 1 1 550 1) ∷ settled_ledger

abbrev ordinary_2 : Ledger
ordinary_2 = e.Sent debit_1 ∷ ordinary_1

abbrev ordinary_3 : Ledger
ordinary_3 = e.Sent release_1 ∷ e.Released 1 1 mark_1 ∷ e.Commit (c.Debited 1 1 550 1 (pos 20513) 1) ∷ ordinary_2

abbrev ordinary_4 : Ledger
ordinary_4 = e.Commit (c.Held 1 mark_1) ∷ ordinary_3

abbrev ordinary_5 : Ledger
ordinary_5 = e.Printed 1 mark_1 ∷ e.Commit (c.Began 1) ∷ ordinary_4

abbrev ordinary_6 : Ledger
ordinary_6 = e.Commit (c.Closed 1) ∷ ordinary_5

ordinary_step_0 : IsRow sample first_rules (drop 1 ordinary_steps) ordinary_1 ordinary_ledger → IsRow sample first_rules (drop 0 ordinary_steps) settled_ledger ordinary_ledger
unfolding plan read spell body number spelled request_at reply_at done_at debit_at release_at kind_of verdict_of size_of day_of marks.body marks.spell marks.mark_at marks.read_mark has_code hmac first_words schedule rounds compress hash_after digest_bytes sha256 request_in adds takes verdict verdict_by reply_to mark_after customer_sum same_kind is_worn
ordinary_step_0 r = row_step sample first_rules _ _ settled_ledger ordinary_1 ordinary_ledger tt (((lit≤ tt, lit≤ tt), lit< tt, lit< tt, lit< tt, lit< tt), inl refl) refl r

ordinary_step_1 : IsRow sample first_rules (drop 2 ordinary_steps) ordinary_2 ordinary_ledger → IsRow sample first_rules (drop 1 ordinary_steps) ordinary_1 ordinary_ledger
unfolding plan read spell body number spelled request_at reply_at done_at debit_at release_at kind_of verdict_of size_of day_of marks.body marks.spell marks.mark_at marks.read_mark has_code hmac first_words schedule rounds compress hash_after digest_bytes sha256 request_in adds takes verdict verdict_by reply_to mark_after customer_sum same_kind is_worn
ordinary_step_1 r = row_step sample first_rules _ _ ordinary_1 ordinary_2 ordinary_ledger tt (lit< tt, inl refl) refl r

ordinary_step_2 : IsRow sample first_rules (drop 3 ordinary_steps) ordinary_3 ordinary_ledger → IsRow sample first_rules (drop 2 ordinary_steps) ordinary_2 ordinary_ledger
unfolding plan read spell body number spelled request_at reply_at done_at debit_at release_at kind_of verdict_of size_of day_of marks.body marks.spell marks.mark_at marks.read_mark has_code hmac first_words schedule rounds compress hash_after digest_bytes sha256 request_in adds takes verdict verdict_by reply_to mark_after customer_sum same_kind is_worn
ordinary_step_2 r = row_step sample first_rules _ _ ordinary_2 ordinary_3 ordinary_ledger tt (lit< tt, inl refl) refl r

ordinary_step_3 : IsRow sample first_rules (drop 4 ordinary_steps) ordinary_4 ordinary_ledger → IsRow sample first_rules (drop 3 ordinary_steps) ordinary_3 ordinary_ledger
unfolding plan read spell body number spelled request_at reply_at done_at debit_at release_at kind_of verdict_of size_of day_of marks.body marks.spell marks.mark_at marks.read_mark has_code hmac first_words schedule rounds compress hash_after digest_bytes sha256 request_in adds takes verdict verdict_by reply_to mark_after customer_sum same_kind is_worn
ordinary_step_3 r = row_step sample first_rules _ _ ordinary_3 ordinary_4 ordinary_ledger tt (lit< tt, inl refl) refl r

ordinary_step_4 : IsRow sample first_rules (drop 5 ordinary_steps) ordinary_5 ordinary_ledger → IsRow sample first_rules (drop 4 ordinary_steps) ordinary_4 ordinary_ledger
unfolding plan read spell body number spelled request_at reply_at done_at debit_at release_at kind_of verdict_of size_of day_of marks.body marks.spell marks.mark_at marks.read_mark has_code hmac first_words schedule rounds compress hash_after digest_bytes sha256 request_in adds takes verdict verdict_by reply_to mark_after customer_sum same_kind is_worn
ordinary_step_4 r = row_step sample first_rules _ _ ordinary_4 ordinary_5 ordinary_ledger tt (lit< tt, inl refl) refl r

ordinary_step_5 : IsRow sample first_rules (drop 6 ordinary_steps) ordinary_6 ordinary_ledger → IsRow sample first_rules (drop 5 ordinary_steps) ordinary_5 ordinary_ledger
unfolding plan read spell body number spelled request_at reply_at done_at debit_at release_at kind_of verdict_of size_of day_of marks.body marks.spell marks.mark_at marks.read_mark has_code hmac first_words schedule rounds compress hash_after digest_bytes sha256 request_in adds takes verdict verdict_by reply_to mark_after customer_sum same_kind is_worn
ordinary_step_5 r = row_step sample first_rules _ _ ordinary_5 ordinary_6 ordinary_ledger tt (lit< tt, inl refl) refl r

ordinary_step_6 : IsRow sample first_rules (drop 7 ordinary_steps) ordinary_ledger ordinary_ledger → IsRow sample first_rules (drop 6 ordinary_steps) ordinary_6 ordinary_ledger
unfolding plan read spell body number spelled request_at reply_at done_at debit_at release_at kind_of verdict_of size_of day_of marks.body marks.spell marks.mark_at marks.read_mark has_code hmac first_words schedule rounds compress hash_after digest_bytes sha256 request_in adds takes verdict verdict_by reply_to mark_after customer_sum same_kind is_worn
ordinary_step_6 r = row_step sample first_rules _ _ ordinary_6 ordinary_ledger ordinary_ledger tt ((lit≤ tt, lit< tt, lit< tt), inl refl) refl r

ordinary_step_7 : IsRow sample first_rules (drop 8 ordinary_steps) ordinary_ledger ordinary_ledger → IsRow sample first_rules (drop 7 ordinary_steps) ordinary_ledger ordinary_ledger
unfolding plan read spell body number spelled request_at reply_at done_at debit_at release_at kind_of verdict_of size_of day_of marks.body marks.spell marks.mark_at marks.read_mark has_code hmac first_words schedule rounds compress hash_after digest_bytes sha256 request_in adds takes verdict verdict_by reply_to mark_after customer_sum same_kind is_worn
ordinary_step_7 r = row_step sample first_rules _ _ ordinary_ledger ordinary_ledger ordinary_ledger tt ((lit≤ tt, lit≤ tt), inl refl) refl r

ordinary_step_8 : IsRow sample first_rules (drop 9 ordinary_steps) ordinary_ledger ordinary_ledger → IsRow sample first_rules (drop 8 ordinary_steps) ordinary_ledger ordinary_ledger
unfolding plan read spell body number spelled request_at reply_at done_at debit_at release_at kind_of verdict_of size_of day_of marks.body marks.spell marks.mark_at marks.read_mark has_code hmac first_words schedule rounds compress hash_after digest_bytes sha256 request_in adds takes verdict verdict_by reply_to mark_after customer_sum same_kind is_worn
ordinary_step_8 r = row_step sample first_rules _ _ ordinary_ledger ordinary_ledger ordinary_ledger tt ((lit≤ tt, lit≤ tt), inl refl) refl r

ordinary_step_9 : IsRow sample first_rules (drop 10 ordinary_steps) ordinary_ledger ordinary_ledger → IsRow sample first_rules (drop 9 ordinary_steps) ordinary_ledger ordinary_ledger
unfolding plan read spell body number spelled request_at reply_at done_at debit_at release_at kind_of verdict_of size_of day_of marks.body marks.spell marks.mark_at marks.read_mark has_code hmac first_words schedule rounds compress hash_after digest_bytes sha256 request_in adds takes verdict verdict_by reply_to mark_after customer_sum same_kind is_worn
ordinary_step_9 r = row_step sample first_rules _ _ ordinary_ledger ordinary_ledger ordinary_ledger tt ((lit≤ tt, lit≤ tt), inl refl) refl r

pub ordinary_row : IsRow sample first_rules ordinary_steps settled_ledger ordinary_ledger
ordinary_row = ordinary_step_0 (ordinary_step_1 (ordinary_step_2 (ordinary_step_3 (ordinary_step_4 (ordinary_step_5 (ordinary_step_6 (ordinary_step_7 (ordinary_step_8 (ordinary_step_9 (row_done sample first_rules ordinary_ledger))))))))))
