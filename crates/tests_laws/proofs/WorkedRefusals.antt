-- Refusals of each node in their order, computed.
use Rattle.std.specs.Prelude.{drop, pos, [], ◌∷◌}
use Rattle.bench_base.specs.declared.words.Node.TheVariants.{Device}
use Rattle.bench_base.specs.declared.ledger.Commit.TheVariants as c
use Rattle.bench_base.specs.declared.ledger.Entry.TheVariants as e
use Rattle.bench_base.specs.Rules.{first_rules}
use Rattle.bench_base.specs.Ledger.{Ledger}
use Rattle.std.proofs.Common.{refl, inl, lit<, lit≤, arith}
use Rattle.std.proofs.lemmas.Int.{ints}
use Rattle.bench_base.specs.Ranges.{IsKey}
use Rattle.bench_base.specs.Table.{number, spelled}
use Rattle.bench_base.specs.Kinds.{same_kind}
use Rattle.bench_base.specs.Cells.{is_worn}
use Rattle.hmac_core.specs.Hmac.{hmac}
use Rattle.sha2.specs.Sha256.{first_words, schedule, rounds, compress, hash_after, digest_bytes, sha256}
use Rattle.indicium.specs.Marks as marks
use Rattle.psd_wire.specs.Grammar.{read, spell, body, request_at, reply_at, done_at, debit_at, release_at, kind_of, verdict_of, size_of, day_of}
use Rattle.psd_wire.specs.Codes.{has_code}
use Rattle.ledger_terms.specs.Requests.{request_in}
use Rattle.ledger_terms.specs.Sums.{adds, takes}
use Rattle.ledger_terms.specs.Centres.{customer_sum}
use Rattle.ledger_terms.specs.Rulings.{verdict, verdict_by, reply_to}
use Rattle.ledger_terms.specs.Franking.{mark_after}
use Rattle.ledger_moves.specs.Moves.{plan}
use Rattle.tests_laws.specs.Runs.{IsRow, sample}
use Rattle.tests_laws.specs.Rows.{key1, debit_2, debit_3, mark_2, mark_3, release_2, release_3, debit_other, checks_ledger, checks_steps, ordinary_ledger, refusals_ledger, refusals_steps, scans_ledger, scans_steps, settled_ledger}
use Rattle.tests_laws.proofs.Bytes.{bytes_below}
use Rattle.tests_laws.proofs.Runs.{row_done, row_step}

key : IsKey key1
key = (refl, bytes_below key1 refl)

-- == refusals ==

refusals_step_0 : IsRow sample first_rules (drop 1 refusals_steps) settled_ledger refusals_ledger → IsRow sample first_rules (drop 0 refusals_steps) settled_ledger refusals_ledger
unfolding plan read spell body number spelled request_at reply_at done_at debit_at release_at kind_of verdict_of size_of day_of marks.body marks.spell marks.mark_at marks.read_mark has_code hmac first_words schedule rounds compress hash_after digest_bytes sha256 request_in adds takes verdict verdict_by reply_to mark_after customer_sum same_kind is_worn
refusals_step_0 r = row_step sample first_rules _ _ settled_ledger settled_ledger refusals_ledger tt (((lit≤ tt, lit≤ tt), lit< tt, lit< tt), inl refl) refl r

refusals_step_1 : IsRow sample first_rules (drop 2 refusals_steps) settled_ledger refusals_ledger → IsRow sample first_rules (drop 1 refusals_steps) settled_ledger refusals_ledger
unfolding plan read spell body number spelled request_at reply_at done_at debit_at release_at kind_of verdict_of size_of day_of marks.body marks.spell marks.mark_at marks.read_mark has_code hmac first_words schedule rounds compress hash_after digest_bytes sha256 request_in adds takes verdict verdict_by reply_to mark_after customer_sum same_kind is_worn
refusals_step_1 r = row_step sample first_rules _ _ settled_ledger settled_ledger refusals_ledger tt (((lit≤ tt, lit≤ tt), lit< tt, lit< tt), inl refl) refl r

refusals_step_2 : IsRow sample first_rules (drop 3 refusals_steps) settled_ledger refusals_ledger → IsRow sample first_rules (drop 2 refusals_steps) settled_ledger refusals_ledger
unfolding plan read spell body number spelled request_at reply_at done_at debit_at release_at kind_of verdict_of size_of day_of marks.body marks.spell marks.mark_at marks.read_mark has_code hmac first_words schedule rounds compress hash_after digest_bytes sha256 request_in adds takes verdict verdict_by reply_to mark_after customer_sum same_kind is_worn
refusals_step_2 r = row_step sample first_rules _ _ settled_ledger settled_ledger refusals_ledger tt (((lit≤ tt, lit≤ tt), lit< tt, lit< tt), inl refl) refl r

refusals_step_3 : IsRow sample first_rules (drop 4 refusals_steps) settled_ledger refusals_ledger → IsRow sample first_rules (drop 3 refusals_steps) settled_ledger refusals_ledger
unfolding plan read spell body number spelled request_at reply_at done_at debit_at release_at kind_of verdict_of size_of day_of marks.body marks.spell marks.mark_at marks.read_mark has_code hmac first_words schedule rounds compress hash_after digest_bytes sha256 request_in adds takes verdict verdict_by reply_to mark_after customer_sum same_kind is_worn
refusals_step_3 r = row_step sample first_rules _ _ settled_ledger settled_ledger refusals_ledger tt (((lit≤ tt, lit≤ tt), lit< tt, lit< tt), inl refl) refl r

refusals_step_4 : IsRow sample first_rules (drop 5 refusals_steps) settled_ledger refusals_ledger → IsRow sample first_rules (drop 4 refusals_steps) settled_ledger refusals_ledger
unfolding plan read spell body number spelled request_at reply_at done_at debit_at release_at kind_of verdict_of size_of day_of marks.body marks.spell marks.mark_at marks.read_mark has_code hmac first_words schedule rounds compress hash_after digest_bytes sha256 request_in adds takes verdict verdict_by reply_to mark_after customer_sum same_kind is_worn
refusals_step_4 r = row_step sample first_rules _ _ settled_ledger settled_ledger refusals_ledger tt (((lit≤ tt, lit≤ tt), lit< tt, lit< tt), inl refl) refl r

refusals_step_5 : IsRow sample first_rules (drop 6 refusals_steps) settled_ledger refusals_ledger → IsRow sample first_rules (drop 5 refusals_steps) settled_ledger refusals_ledger
unfolding plan read spell body number spelled request_at reply_at done_at debit_at release_at kind_of verdict_of size_of day_of marks.body marks.spell marks.mark_at marks.read_mark has_code hmac first_words schedule rounds compress hash_after digest_bytes sha256 request_in adds takes verdict verdict_by reply_to mark_after customer_sum same_kind is_worn
refusals_step_5 r = row_step sample first_rules _ _ settled_ledger settled_ledger refusals_ledger tt ((lit≤ tt, lit≤ tt), inl refl) refl r

refusals_step_6 : IsRow sample first_rules (drop 7 refusals_steps) settled_ledger refusals_ledger → IsRow sample first_rules (drop 6 refusals_steps) settled_ledger refusals_ledger
unfolding plan read spell body number spelled request_at reply_at done_at debit_at release_at kind_of verdict_of size_of day_of marks.body marks.spell marks.mark_at marks.read_mark has_code hmac first_words schedule rounds compress hash_after digest_bytes sha256 request_in adds takes verdict verdict_by reply_to mark_after customer_sum same_kind is_worn
refusals_step_6 r = row_step sample first_rules _ _ settled_ledger settled_ledger refusals_ledger tt (((lit≤ tt, lit≤ tt), key), inl refl) refl r

refusals_step_7 : IsRow sample first_rules (drop 8 refusals_steps) settled_ledger refusals_ledger → IsRow sample first_rules (drop 7 refusals_steps) settled_ledger refusals_ledger
unfolding plan read spell body number spelled request_at reply_at done_at debit_at release_at kind_of verdict_of size_of day_of marks.body marks.spell marks.mark_at marks.read_mark has_code hmac first_words schedule rounds compress hash_after digest_bytes sha256 request_in adds takes verdict verdict_by reply_to mark_after customer_sum same_kind is_worn
refusals_step_7 r = row_step sample first_rules _ _ settled_ledger settled_ledger refusals_ledger tt (lit< tt, inl refl) refl r

refusals_step_8 : IsRow sample first_rules (drop 9 refusals_steps) settled_ledger refusals_ledger → IsRow sample first_rules (drop 8 refusals_steps) settled_ledger refusals_ledger
unfolding plan read spell body number spelled request_at reply_at done_at debit_at release_at kind_of verdict_of size_of day_of marks.body marks.spell marks.mark_at marks.read_mark has_code hmac first_words schedule rounds compress hash_after digest_bytes sha256 request_in adds takes verdict verdict_by reply_to mark_after customer_sum same_kind is_worn
refusals_step_8 r = row_step sample first_rules _ _ settled_ledger settled_ledger refusals_ledger tt (((lit≤ tt, lit≤ tt), lit< tt, lit< tt, lit< tt, lit< tt), inl refl) refl r

refusals_step_9 : IsRow sample first_rules (drop 10 refusals_steps) refusals_ledger refusals_ledger → IsRow sample first_rules (drop 9 refusals_steps) settled_ledger refusals_ledger
unfolding plan read spell body number spelled request_at reply_at done_at debit_at release_at kind_of verdict_of size_of day_of marks.body marks.spell marks.mark_at marks.read_mark has_code hmac first_words schedule rounds compress hash_after digest_bytes sha256 request_in adds takes verdict verdict_by reply_to mark_after customer_sum same_kind is_worn
refusals_step_9 r = row_step sample first_rules _ _ settled_ledger refusals_ledger refusals_ledger tt (((lit≤ tt, lit≤ tt), lit< tt, lit< tt, lit< tt, lit< tt), inl refl) refl r

refusals_step_10 : IsRow sample first_rules (drop 11 refusals_steps) refusals_ledger refusals_ledger → IsRow sample first_rules (drop 10 refusals_steps) refusals_ledger refusals_ledger
unfolding plan read spell body number spelled request_at reply_at done_at debit_at release_at kind_of verdict_of size_of day_of marks.body marks.spell marks.mark_at marks.read_mark has_code hmac first_words schedule rounds compress hash_after digest_bytes sha256 request_in adds takes verdict verdict_by reply_to mark_after customer_sum same_kind is_worn
refusals_step_10 r = row_step sample first_rules _ _ refusals_ledger refusals_ledger refusals_ledger tt (lit< tt, inl refl) refl r

refusals_step_11 : IsRow sample first_rules (drop 12 refusals_steps) refusals_ledger refusals_ledger → IsRow sample first_rules (drop 11 refusals_steps) refusals_ledger refusals_ledger
unfolding plan read spell body number spelled request_at reply_at done_at debit_at release_at kind_of verdict_of size_of day_of marks.body marks.spell marks.mark_at marks.read_mark has_code hmac first_words schedule rounds compress hash_after digest_bytes sha256 request_in adds takes verdict verdict_by reply_to mark_after customer_sum same_kind is_worn
refusals_step_11 r = row_step sample first_rules _ _ refusals_ledger refusals_ledger refusals_ledger tt (((lit≤ tt, lit≤ tt), lit< tt, lit< tt, lit< tt, lit< tt), inl refl) refl r

refusals_step_12 : IsRow sample first_rules (drop 13 refusals_steps) refusals_ledger refusals_ledger → IsRow sample first_rules (drop 12 refusals_steps) refusals_ledger refusals_ledger
unfolding plan read spell body number spelled request_at reply_at done_at debit_at release_at kind_of verdict_of size_of day_of marks.body marks.spell marks.mark_at marks.read_mark has_code hmac first_words schedule rounds compress hash_after digest_bytes sha256 request_in adds takes verdict verdict_by reply_to mark_after customer_sum same_kind is_worn
refusals_step_12 r = row_step sample first_rules _ _ refusals_ledger refusals_ledger refusals_ledger (λ same. tt) ((tt, (lit≤ tt, bytes_below (1 ∷ 17 ∷ []) refl)), inl refl) refl r

refusals_step_13 : IsRow sample first_rules (drop 14 refusals_steps) refusals_ledger refusals_ledger → IsRow sample first_rules (drop 13 refusals_steps) refusals_ledger refusals_ledger
unfolding plan read spell body number spelled request_at reply_at done_at debit_at release_at kind_of verdict_of size_of day_of marks.body marks.spell marks.mark_at marks.read_mark has_code hmac first_words schedule rounds compress hash_after digest_bytes sha256 request_in adds takes verdict verdict_by reply_to mark_after customer_sum same_kind is_worn
refusals_step_13 r = row_step sample first_rules _ _ refusals_ledger refusals_ledger refusals_ledger (λ same. tt) ((tt, (lit≤ tt, bytes_below [] refl)), inl refl) refl r

refusals_step_14 : IsRow sample first_rules (drop 15 refusals_steps) refusals_ledger refusals_ledger → IsRow sample first_rules (drop 14 refusals_steps) refusals_ledger refusals_ledger
unfolding plan read spell body number spelled request_at reply_at done_at debit_at release_at kind_of verdict_of size_of day_of marks.body marks.spell marks.mark_at marks.read_mark has_code hmac first_words schedule rounds compress hash_after digest_bytes sha256 request_in adds takes verdict verdict_by reply_to mark_after customer_sum same_kind is_worn
refusals_step_14 r = row_step sample first_rules _ _ refusals_ledger refusals_ledger refusals_ledger (λ same. tt) ((tt, (lit≤ tt, bytes_below (3 ∷ 1 ∷ []) refl)), inl refl) refl r

refusals_step_15 : IsRow sample first_rules (drop 16 refusals_steps) refusals_ledger refusals_ledger → IsRow sample first_rules (drop 15 refusals_steps) refusals_ledger refusals_ledger
unfolding plan read spell body number spelled request_at reply_at done_at debit_at release_at kind_of verdict_of size_of day_of marks.body marks.spell marks.mark_at marks.read_mark has_code hmac first_words schedule rounds compress hash_after digest_bytes sha256 request_in adds takes verdict verdict_by reply_to mark_after customer_sum same_kind is_worn
refusals_step_15 r = row_step sample first_rules _ _ refusals_ledger refusals_ledger refusals_ledger (λ same. tt) ((tt, (lit≤ tt, bytes_below (1 ∷ 99 ∷ []) refl)), inl refl) refl r

refusals_step_16 : IsRow sample first_rules (drop 17 refusals_steps) refusals_ledger refusals_ledger → IsRow sample first_rules (drop 16 refusals_steps) refusals_ledger refusals_ledger
unfolding plan read spell body number spelled request_at reply_at done_at debit_at release_at kind_of verdict_of size_of day_of marks.body marks.spell marks.mark_at marks.read_mark has_code hmac first_words schedule rounds compress hash_after digest_bytes sha256 request_in adds takes verdict verdict_by reply_to mark_after customer_sum same_kind is_worn
refusals_step_16 r = row_step sample first_rules _ _ refusals_ledger refusals_ledger refusals_ledger (λ same. tt) (((lit≤ tt, lit≤ tt), (lit≤ tt, bytes_below debit_other refl)), inl refl) refl r

refusals_step_17 : IsRow sample first_rules (drop 18 refusals_steps) refusals_ledger refusals_ledger → IsRow sample first_rules (drop 17 refusals_steps) refusals_ledger refusals_ledger
unfolding plan read spell body number spelled request_at reply_at done_at debit_at release_at kind_of verdict_of size_of day_of marks.body marks.spell marks.mark_at marks.read_mark has_code hmac first_words schedule rounds compress hash_after digest_bytes sha256 request_in adds takes verdict verdict_by reply_to mark_after customer_sum same_kind is_worn
refusals_step_17 r = row_step sample first_rules _ _ refusals_ledger refusals_ledger refusals_ledger (λ same. tt) (((lit≤ tt, lit≤ tt), (lit≤ tt, bytes_below debit_2 refl)), inl refl) refl r

pub refusals_row : IsRow sample first_rules refusals_steps settled_ledger refusals_ledger
refusals_row = refusals_step_0 (refusals_step_1 (refusals_step_2 (refusals_step_3 (refusals_step_4 (refusals_step_5 (refusals_step_6 (refusals_step_7 (refusals_step_8 (refusals_step_9 (refusals_step_10 (refusals_step_11 (refusals_step_12 (refusals_step_13 (refusals_step_14 (refusals_step_15 (refusals_step_16 (refusals_step_17 (row_done sample first_rules refusals_ledger))))))))))))))))))

-- == scans ==

abbrev scans_1 : Ledger
scans_1 = e.Sent release_2 ∷ e.Released 1 2 mark_2 ∷ e.Commit (c.Debited 1 2 550 1 (pos 20513) 1) ∷ ordinary_ledger

abbrev scans_2 : Ledger
scans_2 = e.Sent release_2 ∷ e.Released 1 2 mark_2 ∷ scans_1

abbrev scans_3 : Ledger
scans_3 = e.Sent release_3 ∷ e.Released 1 3 mark_3 ∷ e.Commit (c.Debited 1 3 550 1 (pos 20513) 1) ∷ scans_2

abbrev scans_6 : Ledger
scans_6 = e.Day (pos 20512) ∷ scans_3

abbrev scans_8 : Ledger
scans_8 = e.Day (pos 20543) ∷ scans_6

abbrev scans_9 : Ledger
scans_9 = e.Commit (c.Accepted 1 2 3) ∷ scans_8

scans_step_0 : IsRow sample first_rules (drop 1 scans_steps) scans_1 scans_ledger → IsRow sample first_rules (drop 0 scans_steps) ordinary_ledger scans_ledger
unfolding plan read spell body number spelled request_at reply_at done_at debit_at release_at kind_of verdict_of size_of day_of marks.body marks.spell marks.mark_at marks.read_mark has_code hmac first_words schedule rounds compress hash_after digest_bytes sha256 request_in adds takes verdict verdict_by reply_to mark_after customer_sum same_kind is_worn
scans_step_0 r = row_step sample first_rules _ _ ordinary_ledger scans_1 scans_ledger (λ same. tt) (((lit≤ tt, lit≤ tt), (lit≤ tt, bytes_below debit_2 refl)), inl refl) refl r

scans_step_1 : IsRow sample first_rules (drop 2 scans_steps) scans_2 scans_ledger → IsRow sample first_rules (drop 1 scans_steps) scans_1 scans_ledger
unfolding plan read spell body number spelled request_at reply_at done_at debit_at release_at kind_of verdict_of size_of day_of marks.body marks.spell marks.mark_at marks.read_mark has_code hmac first_words schedule rounds compress hash_after digest_bytes sha256 request_in adds takes verdict verdict_by reply_to mark_after customer_sum same_kind is_worn
scans_step_1 r = row_step sample first_rules _ _ scans_1 scans_2 scans_ledger (λ same. tt) (((lit≤ tt, lit≤ tt), (lit≤ tt, bytes_below debit_2 refl)), inl refl) refl r

scans_step_2 : IsRow sample first_rules (drop 3 scans_steps) scans_3 scans_ledger → IsRow sample first_rules (drop 2 scans_steps) scans_2 scans_ledger
unfolding plan read spell body number spelled request_at reply_at done_at debit_at release_at kind_of verdict_of size_of day_of marks.body marks.spell marks.mark_at marks.read_mark has_code hmac first_words schedule rounds compress hash_after digest_bytes sha256 request_in adds takes verdict verdict_by reply_to mark_after customer_sum same_kind is_worn
scans_step_2 r = row_step sample first_rules _ _ scans_2 scans_3 scans_ledger (λ same. tt) (((lit≤ tt, lit≤ tt), (lit≤ tt, bytes_below debit_3 refl)), inl refl) refl r

scans_step_3 : IsRow sample first_rules (drop 4 scans_steps) scans_3 scans_ledger → IsRow sample first_rules (drop 3 scans_steps) scans_3 scans_ledger
unfolding plan read spell body number spelled request_at reply_at done_at debit_at release_at kind_of verdict_of size_of day_of marks.body marks.spell marks.mark_at marks.read_mark has_code hmac first_words schedule rounds compress hash_after digest_bytes sha256 request_in adds takes verdict verdict_by reply_to mark_after customer_sum same_kind is_worn
scans_step_3 r = row_step sample first_rules _ _ scans_3 scans_3 scans_ledger tt ((lit≤ tt, lit< tt, lit< tt), inl refl) refl r

scans_step_4 : IsRow sample first_rules (drop 5 scans_steps) scans_3 scans_ledger → IsRow sample first_rules (drop 4 scans_steps) scans_3 scans_ledger
unfolding plan read spell body number spelled request_at reply_at done_at debit_at release_at kind_of verdict_of size_of day_of marks.body marks.spell marks.mark_at marks.read_mark has_code hmac first_words schedule rounds compress hash_after digest_bytes sha256 request_in adds takes verdict verdict_by reply_to mark_after customer_sum same_kind is_worn
scans_step_4 r = row_step sample first_rules _ _ scans_3 scans_3 scans_ledger tt ((lit≤ tt, lit< tt, lit< tt), inl refl) refl r

scans_step_5 : IsRow sample first_rules (drop 6 scans_steps) scans_6 scans_ledger → IsRow sample first_rules (drop 5 scans_steps) scans_3 scans_ledger
unfolding plan read spell body number spelled request_at reply_at done_at debit_at release_at kind_of verdict_of size_of day_of marks.body marks.spell marks.mark_at marks.read_mark has_code hmac first_words schedule rounds compress hash_after digest_bytes sha256 request_in adds takes verdict verdict_by reply_to mark_after customer_sum same_kind is_worn
scans_step_5 r = row_step sample first_rules _ _ scans_3 scans_6 scans_ledger tt ((omega (arith, ints), omega (arith, ints)), inl refl) refl r

scans_step_6 : IsRow sample first_rules (drop 7 scans_steps) scans_6 scans_ledger → IsRow sample first_rules (drop 6 scans_steps) scans_6 scans_ledger
unfolding plan read spell body number spelled request_at reply_at done_at debit_at release_at kind_of verdict_of size_of day_of marks.body marks.spell marks.mark_at marks.read_mark has_code hmac first_words schedule rounds compress hash_after digest_bytes sha256 request_in adds takes verdict verdict_by reply_to mark_after customer_sum same_kind is_worn
scans_step_6 r = row_step sample first_rules _ _ scans_6 scans_6 scans_ledger tt ((lit≤ tt, lit< tt, lit< tt), inl refl) refl r

scans_step_7 : IsRow sample first_rules (drop 8 scans_steps) scans_8 scans_ledger → IsRow sample first_rules (drop 7 scans_steps) scans_6 scans_ledger
unfolding plan read spell body number spelled request_at reply_at done_at debit_at release_at kind_of verdict_of size_of day_of marks.body marks.spell marks.mark_at marks.read_mark has_code hmac first_words schedule rounds compress hash_after digest_bytes sha256 request_in adds takes verdict verdict_by reply_to mark_after customer_sum same_kind is_worn
scans_step_7 r = row_step sample first_rules _ _ scans_6 scans_8 scans_ledger tt ((omega (arith, ints), omega (arith, ints)), inl refl) refl r

scans_step_8 : IsRow sample first_rules (drop 9 scans_steps) scans_9 scans_ledger → IsRow sample first_rules (drop 8 scans_steps) scans_8 scans_ledger
unfolding plan read spell body number spelled request_at reply_at done_at debit_at release_at kind_of verdict_of size_of day_of marks.body marks.spell marks.mark_at marks.read_mark has_code hmac first_words schedule rounds compress hash_after digest_bytes sha256 request_in adds takes verdict verdict_by reply_to mark_after customer_sum same_kind is_worn
scans_step_8 r = row_step sample first_rules _ _ scans_8 scans_9 scans_ledger tt ((lit≤ tt, lit< tt, lit< tt), inl refl) refl r

scans_step_9 : IsRow sample first_rules (drop 10 scans_steps) scans_ledger scans_ledger → IsRow sample first_rules (drop 9 scans_steps) scans_9 scans_ledger
unfolding plan read spell body number spelled request_at reply_at done_at debit_at release_at kind_of verdict_of size_of day_of marks.body marks.spell marks.mark_at marks.read_mark has_code hmac first_words schedule rounds compress hash_after digest_bytes sha256 request_in adds takes verdict verdict_by reply_to mark_after customer_sum same_kind is_worn
scans_step_9 r = row_step sample first_rules _ _ scans_9 scans_ledger scans_ledger tt ((omega (arith, ints), omega (arith, ints)), inl refl) refl r

scans_step_10 : IsRow sample first_rules (drop 11 scans_steps) scans_ledger scans_ledger → IsRow sample first_rules (drop 10 scans_steps) scans_ledger scans_ledger
unfolding plan read spell body number spelled request_at reply_at done_at debit_at release_at kind_of verdict_of size_of day_of marks.body marks.spell marks.mark_at marks.read_mark has_code hmac first_words schedule rounds compress hash_after digest_bytes sha256 request_in adds takes verdict verdict_by reply_to mark_after customer_sum same_kind is_worn
scans_step_10 r = row_step sample first_rules _ _ scans_ledger scans_ledger scans_ledger tt ((lit≤ tt, lit< tt, lit< tt), inl refl) refl r

scans_step_11 : IsRow sample first_rules (drop 12 scans_steps) scans_ledger scans_ledger → IsRow sample first_rules (drop 11 scans_steps) scans_ledger scans_ledger
unfolding plan read spell body number spelled request_at reply_at done_at debit_at release_at kind_of verdict_of size_of day_of marks.body marks.spell marks.mark_at marks.read_mark has_code hmac first_words schedule rounds compress hash_after digest_bytes sha256 request_in adds takes verdict verdict_by reply_to mark_after customer_sum same_kind is_worn
scans_step_11 r = row_step sample first_rules _ _ scans_ledger scans_ledger scans_ledger tt ((lit≤ tt, lit< tt, lit< tt), inl refl) refl r

scans_step_12 : IsRow sample first_rules (drop 13 scans_steps) scans_ledger scans_ledger → IsRow sample first_rules (drop 12 scans_steps) scans_ledger scans_ledger
unfolding plan read spell body number spelled request_at reply_at done_at debit_at release_at kind_of verdict_of size_of day_of marks.body marks.spell marks.mark_at marks.read_mark has_code hmac first_words schedule rounds compress hash_after digest_bytes sha256 request_in adds takes verdict verdict_by reply_to mark_after customer_sum same_kind is_worn
scans_step_12 r = row_step sample first_rules _ _ scans_ledger scans_ledger scans_ledger tt (((lit≤ tt, lit≤ tt), lit< tt, lit< tt, lit< tt, lit< tt), inl refl) refl r

pub scans_row : IsRow sample first_rules scans_steps ordinary_ledger scans_ledger
scans_row = scans_step_0 (scans_step_1 (scans_step_2 (scans_step_3 (scans_step_4 (scans_step_5 (scans_step_6 (scans_step_7 (scans_step_8 (scans_step_9 (scans_step_10 (scans_step_11 (scans_step_12 (row_done sample first_rules scans_ledger)))))))))))))

-- == checks ==

abbrev checks_2 : Ledger
checks_2 = e.Day (pos 20513) ∷ []

abbrev checks_4 : Ledger
checks_4 = e.Up (Device 1) 0 ∷ checks_2

checks_step_0 : IsRow sample first_rules (drop 1 checks_steps) [] checks_ledger → IsRow sample first_rules (drop 0 checks_steps) [] checks_ledger
unfolding plan read spell body number spelled request_at reply_at done_at debit_at release_at kind_of verdict_of size_of day_of marks.body marks.spell marks.mark_at marks.read_mark has_code hmac first_words schedule rounds compress hash_after digest_bytes sha256 request_in adds takes verdict verdict_by reply_to mark_after customer_sum same_kind is_worn
checks_step_0 r = row_step sample first_rules _ _ [] [] checks_ledger tt ((lit≤ tt, lit≤ tt), inl refl) refl r

checks_step_1 : IsRow sample first_rules (drop 2 checks_steps) checks_2 checks_ledger → IsRow sample first_rules (drop 1 checks_steps) [] checks_ledger
unfolding plan read spell body number spelled request_at reply_at done_at debit_at release_at kind_of verdict_of size_of day_of marks.body marks.spell marks.mark_at marks.read_mark has_code hmac first_words schedule rounds compress hash_after digest_bytes sha256 request_in adds takes verdict verdict_by reply_to mark_after customer_sum same_kind is_worn
checks_step_1 r = row_step sample first_rules _ _ [] checks_2 checks_ledger tt ((omega (arith, ints), omega (arith, ints)), inl refl) refl r

checks_step_2 : IsRow sample first_rules (drop 3 checks_steps) checks_2 checks_ledger → IsRow sample first_rules (drop 2 checks_steps) checks_2 checks_ledger
unfolding plan read spell body number spelled request_at reply_at done_at debit_at release_at kind_of verdict_of size_of day_of marks.body marks.spell marks.mark_at marks.read_mark has_code hmac first_words schedule rounds compress hash_after digest_bytes sha256 request_in adds takes verdict verdict_by reply_to mark_after customer_sum same_kind is_worn
checks_step_2 r = row_step sample first_rules _ _ checks_2 checks_2 checks_ledger tt ((lit≤ tt, lit≤ tt), inl refl) refl r

checks_step_3 : IsRow sample first_rules (drop 4 checks_steps) checks_4 checks_ledger → IsRow sample first_rules (drop 3 checks_steps) checks_2 checks_ledger
unfolding plan read spell body number spelled request_at reply_at done_at debit_at release_at kind_of verdict_of size_of day_of marks.body marks.spell marks.mark_at marks.read_mark has_code hmac first_words schedule rounds compress hash_after digest_bytes sha256 request_in adds takes verdict verdict_by reply_to mark_after customer_sum same_kind is_worn
checks_step_3 r = row_step sample first_rules _ _ checks_2 checks_4 checks_ledger tt ((lit≤ tt, lit≤ tt), inl refl) refl r

checks_step_4 : IsRow sample first_rules (drop 5 checks_steps) checks_4 checks_ledger → IsRow sample first_rules (drop 4 checks_steps) checks_4 checks_ledger
unfolding plan read spell body number spelled request_at reply_at done_at debit_at release_at kind_of verdict_of size_of day_of marks.body marks.spell marks.mark_at marks.read_mark has_code hmac first_words schedule rounds compress hash_after digest_bytes sha256 request_in adds takes verdict verdict_by reply_to mark_after customer_sum same_kind is_worn
checks_step_4 r = row_step sample first_rules _ _ checks_4 checks_4 checks_ledger tt ((lit≤ tt, lit≤ tt), inl refl) refl r

checks_step_5 : IsRow sample first_rules (drop 6 checks_steps) checks_4 checks_ledger → IsRow sample first_rules (drop 5 checks_steps) checks_4 checks_ledger
unfolding plan read spell body number spelled request_at reply_at done_at debit_at release_at kind_of verdict_of size_of day_of marks.body marks.spell marks.mark_at marks.read_mark has_code hmac first_words schedule rounds compress hash_after digest_bytes sha256 request_in adds takes verdict verdict_by reply_to mark_after customer_sum same_kind is_worn
checks_step_5 r = row_step sample first_rules _ _ checks_4 checks_4 checks_ledger tt ((lit≤ tt, lit≤ tt), inl refl) refl r

checks_step_6 : IsRow sample first_rules (drop 7 checks_steps) checks_4 checks_ledger → IsRow sample first_rules (drop 6 checks_steps) checks_4 checks_ledger
unfolding plan read spell body number spelled request_at reply_at done_at debit_at release_at kind_of verdict_of size_of day_of marks.body marks.spell marks.mark_at marks.read_mark has_code hmac first_words schedule rounds compress hash_after digest_bytes sha256 request_in adds takes verdict verdict_by reply_to mark_after customer_sum same_kind is_worn
checks_step_6 r = row_step sample first_rules _ _ checks_4 checks_4 checks_ledger tt (lit< tt, inl refl) refl r

checks_step_7 : IsRow sample first_rules (drop 8 checks_steps) checks_4 checks_ledger → IsRow sample first_rules (drop 7 checks_steps) checks_4 checks_ledger
unfolding plan read spell body number spelled request_at reply_at done_at debit_at release_at kind_of verdict_of size_of day_of marks.body marks.spell marks.mark_at marks.read_mark has_code hmac first_words schedule rounds compress hash_after digest_bytes sha256 request_in adds takes verdict verdict_by reply_to mark_after customer_sum same_kind is_worn
checks_step_7 r = row_step sample first_rules _ _ checks_4 checks_4 checks_ledger tt ((lit≤ tt, lit≤ tt), inl refl) refl r

checks_step_8 : IsRow sample first_rules (drop 9 checks_steps) checks_ledger checks_ledger → IsRow sample first_rules (drop 8 checks_steps) checks_4 checks_ledger
unfolding plan read spell body number spelled request_at reply_at done_at debit_at release_at kind_of verdict_of size_of day_of marks.body marks.spell marks.mark_at marks.read_mark has_code hmac first_words schedule rounds compress hash_after digest_bytes sha256 request_in adds takes verdict verdict_by reply_to mark_after customer_sum same_kind is_worn
checks_step_8 r = row_step sample first_rules _ _ checks_4 checks_ledger checks_ledger tt ((lit≤ tt, lit≤ tt), inl refl) refl r

checks_step_9 : IsRow sample first_rules (drop 10 checks_steps) checks_ledger checks_ledger → IsRow sample first_rules (drop 9 checks_steps) checks_ledger checks_ledger
unfolding plan read spell body number spelled request_at reply_at done_at debit_at release_at kind_of verdict_of size_of day_of marks.body marks.spell marks.mark_at marks.read_mark has_code hmac first_words schedule rounds compress hash_after digest_bytes sha256 request_in adds takes verdict verdict_by reply_to mark_after customer_sum same_kind is_worn
checks_step_9 r = row_step sample first_rules _ _ checks_ledger checks_ledger checks_ledger tt ((lit≤ tt, lit≤ tt), inl refl) refl r

pub checks_row : IsRow sample first_rules checks_steps [] checks_ledger
checks_row = checks_step_0 (checks_step_1 (checks_step_2 (checks_step_3 (checks_step_4 (checks_step_5 (checks_step_6 (checks_step_7 (checks_step_8 (checks_step_9 (row_done sample first_rules checks_ledger))))))))))
