-- A row that goes on under today's rules, computed.
use Rattle.std.specs.Prelude.{drop, pos, ◌∷◌}
use Rattle.bench_base.specs.declared.words.Verdict.TheVariants.{Granted}
use Rattle.bench_base.specs.declared.ledger.Commit.TheVariants as c
use Rattle.bench_base.specs.declared.ledger.Entry.TheVariants as e
use Rattle.bench_base.specs.Rules.{todays_rules}
use Rattle.bench_base.specs.Ledger.{Ledger}
use Rattle.std.proofs.Common.{refl, inl, lit<, lit≤, arith}
use Rattle.std.proofs.lemmas.Int.{ints}
use Rattle.bench_base.specs.Table.{number, spelled}
use Rattle.bench_base.specs.Kinds.{same_kind}
use Rattle.bench_base.specs.Cells.{is_worn}
use Rattle.hmac_core.specs.Hmac.{hmac}
use Rattle.sha2.specs.Sha256.{first_words, schedule, rounds, compress, hash_after, digest_bytes, sha256}
use Rattle.indicium.specs.Marks as marks
use Rattle.psd_wire.specs.Grammar.{read, spell, body, request_at, reply_at, done_at, debit_at, release_at, kind_of, verdict_of, size_of, day_of}
use Rattle.psd_wire.specs.Codes.{has_code}
use Rattle.ledger_terms.specs.Requests.{request_in}
use Rattle.ledger_terms.specs.Sums.{adds, takes}
use Rattle.ledger_terms.specs.Centres.{customer_sum}
use Rattle.ledger_terms.specs.Rulings.{verdict, verdict_by, reply_to}
use Rattle.ledger_terms.specs.Franking.{mark_after}
use Rattle.ledger_moves.specs.Moves.{plan}
use Rattle.tests_laws.specs.Runs.{IsRow, sample}
use Rattle.tests_laws.specs.Rows.{debit_1, settled_ledger}
use Rattle.tests_laws.specs.TodayRows.{new_mark_1, new_release_1, new_mark_2, new_audit_4, new_granted_4, today_steps, today_ledger}
use Rattle.tests_laws.proofs.Runs.{row_done, row_step}

abbrev today_1 : Ledger
today_1 = e.Commit (c.Ordered 1 1 1 550 1) ∷ settled_ledger

abbrev today_2 : Ledger
today_2 = e.Sent debit_1 ∷ today_1

abbrev today_3 : Ledger
today_3 = e.Sent new_release_1 ∷ e.Released 1 1 new_mark_1 ∷ e.Commit (c.Debited 1 1 550 1 (pos 20513) 2) ∷ today_2

abbrev today_4 : Ledger
today_4 = e.Commit (c.Held 1 new_mark_1) ∷ today_3

abbrev today_5 : Ledger
today_5 = e.Printed 1 new_mark_1 ∷ e.Commit (c.Began 1) ∷ today_4

abbrev today_6 : Ledger
today_6 = e.Commit (c.Accepted 1 1 1) ∷ today_5

abbrev today_7 : Ledger
today_7 = e.Day (pos 20606) ∷ today_6

abbrev today_9 : Ledger
today_9 = e.Released 1 2 new_mark_2 ∷ e.Commit (c.Debited 1 2 1000 1 (pos 20606) 2) ∷ today_7

abbrev today_11 : Ledger
today_11 = e.Sent new_audit_4 ∷ e.Commit (c.Asked 1 4 new_audit_4) ∷ today_9

abbrev today_12 : Ledger
today_12 = e.Sent new_granted_4 ∷ e.Commit (c.Ruled 1 4 Granted new_audit_4) ∷ today_11

today_step_0 : IsRow sample todays_rules (drop 1 today_steps) today_1 today_ledger → IsRow sample todays_rules (drop 0 today_steps) settled_ledger today_ledger
unfolding plan read spell body number spelled request_at reply_at done_at debit_at release_at kind_of verdict_of size_of day_of marks.body marks.spell marks.mark_at marks.read_mark has_code hmac first_words schedule rounds compress hash_after digest_bytes sha256 request_in adds takes verdict verdict_by reply_to mark_after customer_sum same_kind is_worn
today_step_0 r = row_step sample todays_rules _ _ settled_ledger today_1 today_ledger tt (((lit≤ tt, lit≤ tt), lit< tt, lit< tt, lit< tt, lit< tt), inl refl) refl r

today_step_1 : IsRow sample todays_rules (drop 2 today_steps) today_2 today_ledger → IsRow sample todays_rules (drop 1 today_steps) today_1 today_ledger
unfolding plan read spell body number spelled request_at reply_at done_at debit_at release_at kind_of verdict_of size_of day_of marks.body marks.spell marks.mark_at marks.read_mark has_code hmac first_words schedule rounds compress hash_after digest_bytes sha256 request_in adds takes verdict verdict_by reply_to mark_after customer_sum same_kind is_worn
today_step_1 r = row_step sample todays_rules _ _ today_1 today_2 today_ledger tt (lit< tt, inl refl) refl r

today_step_2 : IsRow sample todays_rules (drop 3 today_steps) today_3 today_ledger → IsRow sample todays_rules (drop 2 today_steps) today_2 today_ledger
unfolding plan read spell body number spelled request_at reply_at done_at debit_at release_at kind_of verdict_of size_of day_of marks.body marks.spell marks.mark_at marks.read_mark has_code hmac first_words schedule rounds compress hash_after digest_bytes sha256 request_in adds takes verdict verdict_by reply_to mark_after customer_sum same_kind is_worn
today_step_2 r = row_step sample todays_rules _ _ today_2 today_3 today_ledger tt (lit< tt, inl refl) refl r

today_step_3 : IsRow sample todays_rules (drop 4 today_steps) today_4 today_ledger → IsRow sample todays_rules (drop 3 today_steps) today_3 today_ledger
unfolding plan read spell body number spelled request_at reply_at done_at debit_at release_at kind_of verdict_of size_of day_of marks.body marks.spell marks.mark_at marks.read_mark has_code hmac first_words schedule rounds compress hash_after digest_bytes sha256 request_in adds takes verdict verdict_by reply_to mark_after customer_sum same_kind is_worn
today_step_3 r = row_step sample todays_rules _ _ today_3 today_4 today_ledger tt (lit< tt, inl refl) refl r

today_step_4 : IsRow sample todays_rules (drop 5 today_steps) today_5 today_ledger → IsRow sample todays_rules (drop 4 today_steps) today_4 today_ledger
unfolding plan read spell body number spelled request_at reply_at done_at debit_at release_at kind_of verdict_of size_of day_of marks.body marks.spell marks.mark_at marks.read_mark has_code hmac first_words schedule rounds compress hash_after digest_bytes sha256 request_in adds takes verdict verdict_by reply_to mark_after customer_sum same_kind is_worn
today_step_4 r = row_step sample todays_rules _ _ today_4 today_5 today_ledger tt (lit< tt, inl refl) refl r

today_step_5 : IsRow sample todays_rules (drop 6 today_steps) today_6 today_ledger → IsRow sample todays_rules (drop 5 today_steps) today_5 today_ledger
unfolding plan read spell body number spelled request_at reply_at done_at debit_at release_at kind_of verdict_of size_of day_of marks.body marks.spell marks.mark_at marks.read_mark has_code hmac first_words schedule rounds compress hash_after digest_bytes sha256 request_in adds takes verdict verdict_by reply_to mark_after customer_sum same_kind is_worn
today_step_5 r = row_step sample todays_rules _ _ today_5 today_6 today_ledger tt ((lit≤ tt, lit< tt, lit< tt), inl refl) refl r

today_step_6 : IsRow sample todays_rules (drop 7 today_steps) today_7 today_ledger → IsRow sample todays_rules (drop 6 today_steps) today_6 today_ledger
unfolding plan read spell body number spelled request_at reply_at done_at debit_at release_at kind_of verdict_of size_of day_of marks.body marks.spell marks.mark_at marks.read_mark has_code hmac first_words schedule rounds compress hash_after digest_bytes sha256 request_in adds takes verdict verdict_by reply_to mark_after customer_sum same_kind is_worn
today_step_6 r = row_step sample todays_rules _ _ today_6 today_7 today_ledger tt ((omega (arith, ints), omega (arith, ints)), inl refl) refl r

today_step_7 : IsRow sample todays_rules (drop 8 today_steps) today_7 today_ledger → IsRow sample todays_rules (drop 7 today_steps) today_7 today_ledger
unfolding plan read spell body number spelled request_at reply_at done_at debit_at release_at kind_of verdict_of size_of day_of marks.body marks.spell marks.mark_at marks.read_mark has_code hmac first_words schedule rounds compress hash_after digest_bytes sha256 request_in adds takes verdict verdict_by reply_to mark_after customer_sum same_kind is_worn
today_step_7 r = row_step sample todays_rules _ _ today_7 today_7 today_ledger tt (((lit≤ tt, lit≤ tt), lit< tt, lit< tt, lit< tt), inl refl) refl r

today_step_8 : IsRow sample todays_rules (drop 9 today_steps) today_9 today_ledger → IsRow sample todays_rules (drop 8 today_steps) today_7 today_ledger
unfolding plan read spell body number spelled request_at reply_at done_at debit_at release_at kind_of verdict_of size_of day_of marks.body marks.spell marks.mark_at marks.read_mark has_code hmac first_words schedule rounds compress hash_after digest_bytes sha256 request_in adds takes verdict verdict_by reply_to mark_after customer_sum same_kind is_worn
today_step_8 r = row_step sample todays_rules _ _ today_7 today_9 today_ledger tt (((lit≤ tt, lit≤ tt), lit< tt, lit< tt, lit< tt), inl refl) refl r

today_step_9 : IsRow sample todays_rules (drop 10 today_steps) today_9 today_ledger → IsRow sample todays_rules (drop 9 today_steps) today_9 today_ledger
unfolding plan read spell body number spelled request_at reply_at done_at debit_at release_at kind_of verdict_of size_of day_of marks.body marks.spell marks.mark_at marks.read_mark has_code hmac first_words schedule rounds compress hash_after digest_bytes sha256 request_in adds takes verdict verdict_by reply_to mark_after customer_sum same_kind is_worn
today_step_9 r = row_step sample todays_rules _ _ today_9 today_9 today_ledger tt (((lit≤ tt, lit≤ tt), (refl, lit< tt)), inl refl) refl r

today_step_10 : IsRow sample todays_rules (drop 11 today_steps) today_11 today_ledger → IsRow sample todays_rules (drop 10 today_steps) today_9 today_ledger
unfolding plan read spell body number spelled request_at reply_at done_at debit_at release_at kind_of verdict_of size_of day_of marks.body marks.spell marks.mark_at marks.read_mark has_code hmac first_words schedule rounds compress hash_after digest_bytes sha256 request_in adds takes verdict verdict_by reply_to mark_after customer_sum same_kind is_worn
today_step_10 r = row_step sample todays_rules _ _ today_9 today_11 today_ledger tt (((lit≤ tt, lit≤ tt), (refl, refl)), inl refl) refl r

today_step_11 : IsRow sample todays_rules (drop 12 today_steps) today_12 today_ledger → IsRow sample todays_rules (drop 11 today_steps) today_11 today_ledger
unfolding plan read spell body number spelled request_at reply_at done_at debit_at release_at kind_of verdict_of size_of day_of marks.body marks.spell marks.mark_at marks.read_mark has_code hmac first_words schedule rounds compress hash_after digest_bytes sha256 request_in adds takes verdict verdict_by reply_to mark_after customer_sum same_kind is_worn
today_step_11 r = row_step sample todays_rules _ _ today_11 today_12 today_ledger tt (lit< tt, inl refl) refl r

today_step_12 : IsRow sample todays_rules (drop 13 today_steps) today_ledger today_ledger → IsRow sample todays_rules (drop 12 today_steps) today_12 today_ledger
unfolding plan read spell body number spelled request_at reply_at done_at debit_at release_at kind_of verdict_of size_of day_of marks.body marks.spell marks.mark_at marks.read_mark has_code hmac first_words schedule rounds compress hash_after digest_bytes sha256 request_in adds takes verdict verdict_by reply_to mark_after customer_sum same_kind is_worn
today_step_12 r = row_step sample todays_rules _ _ today_12 today_ledger today_ledger tt (lit< tt, inl refl) refl r

today_step_13 : IsRow sample todays_rules (drop 14 today_steps) today_ledger today_ledger → IsRow sample todays_rules (drop 13 today_steps) today_ledger today_ledger
unfolding plan read spell body number spelled request_at reply_at done_at debit_at release_at kind_of verdict_of size_of day_of marks.body marks.spell marks.mark_at marks.read_mark has_code hmac first_words schedule rounds compress hash_after digest_bytes sha256 request_in adds takes verdict verdict_by reply_to mark_after customer_sum same_kind is_worn
today_step_13 r = row_step sample todays_rules _ _ today_ledger today_ledger today_ledger tt ((lit≤ tt, lit≤ tt), inl refl) refl r

pub today_row : IsRow sample todays_rules today_steps settled_ledger today_ledger
today_row =
    today_step_0 (today_step_1 (today_step_2 (today_step_3 (today_step_4 (today_step_5 (today_step_6 (today_step_7 (today_step_8 (today_step_9 (today_step_10 (today_step_11 (today_step_12 (today_step_13 (row_done sample todays_rules today_ledger))))))))))))))
