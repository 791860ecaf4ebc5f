-- Replies that are lost, a refund that is cut, a withdrawal and resets that are not granted, computed.
use Rattle.std.specs.Prelude.{drop, pos, true, ◌∷◌}
use Rattle.bench_base.specs.declared.{words.Node.TheVariants.Centre, words.Verdict.TheVariants.Granted, words.Verdict.TheVariants.NoFunds}
use Rattle.bench_base.specs.declared.ledger.Commit.TheVariants as c
use Rattle.bench_base.specs.declared.ledger.Entry.TheVariants as e
use Rattle.bench_base.specs.Rules.{first_rules}
use Rattle.bench_base.specs.Ledger.{Ledger}
use Rattle.std.proofs.Common.{refl, inl, inr, lit<, lit≤}
use Rattle.bench_base.specs.Ranges.{IsKey}
use Rattle.bench_base.specs.Table.{number, spelled}
use Rattle.bench_base.specs.Kinds.{same_kind}
use Rattle.bench_base.specs.Cells.{is_worn}
use Rattle.hmac_core.specs.Hmac.{hmac}
use Rattle.sha2.specs.Sha256.{first_words, schedule, rounds, compress, hash_after, digest_bytes, sha256}
use Rattle.indicium.specs.Marks as marks
use Rattle.psd_wire.specs.Grammar.{read, spell, body, request_at, reply_at, done_at, debit_at, release_at, kind_of, verdict_of, size_of, day_of}
use Rattle.psd_wire.specs.Codes.{has_code}
use Rattle.ledger_terms.specs.Requests.{request_in}
use Rattle.ledger_terms.specs.Sums.{adds, takes}
use Rattle.ledger_terms.specs.Centres.{customer_sum}
use Rattle.ledger_terms.specs.Rulings.{verdict, verdict_by, reply_to}
use Rattle.ledger_terms.specs.Franking.{mark_after}
use Rattle.centre_ledger.specs.Standing.{ruling_in}
use Rattle.ledger_moves.specs.Moves.{plan}
use Rattle.tests_laws.specs.Runs.{IsRow, sample}
use Rattle.tests_laws.specs.Rows.{key1, reset_3, reset_granted, done_3, mark_1, refund_4, refund_granted, withdraw_4, withdraw_granted, reset_50001, no_funds_4, reset_5, funds_ledger, funds_steps, lost_ledger, lost_steps, refund_ledger, refund_steps, reply_lost_start, settled_ledger, withdrawal_ledger, withdrawal_steps}
use Rattle.tests_laws.proofs.Bytes.{bytes_below}
use Rattle.tests_laws.proofs.Runs.{row_done, row_step}

key : IsKey key1
key = (refl, bytes_below key1 refl)

-- == lost ==

abbrev lost_2 : Ledger
lost_2 = e.Sent reset_3 ∷ reply_lost_start

abbrev lost_3 : Ledger
lost_3 = e.Sent reset_granted ∷ lost_2

abbrev lost_4 : Ledger
lost_4 = e.Commit (c.Applied 1 3 Granted) ∷ lost_3

abbrev lost_7 : Ledger
lost_7 = e.Sent done_3 ∷ lost_4

lost_step_0 : IsRow sample first_rules (drop 1 lost_steps) reply_lost_start lost_ledger → IsRow sample first_rules (drop 0 lost_steps) reply_lost_start lost_ledger
unfolding plan read spell body number spelled request_at reply_at done_at debit_at release_at kind_of verdict_of size_of day_of marks.body marks.spell marks.mark_at marks.read_mark has_code hmac first_words schedule rounds compress hash_after digest_bytes sha256 request_in adds takes verdict verdict_by reply_to mark_after customer_sum same_kind is_worn
lost_step_0 r = row_step sample first_rules _ _ reply_lost_start reply_lost_start lost_ledger tt ((lit≤ tt, lit≤ tt), inl refl) refl r

lost_step_1 : IsRow sample first_rules (drop 2 lost_steps) lost_2 lost_ledger → IsRow sample first_rules (drop 1 lost_steps) reply_lost_start lost_ledger
unfolding plan read spell body number spelled request_at reply_at done_at debit_at release_at kind_of verdict_of size_of day_of marks.body marks.spell marks.mark_at marks.read_mark has_code hmac first_words schedule rounds compress hash_after digest_bytes sha256 request_in adds takes verdict verdict_by reply_to mark_after customer_sum same_kind is_worn
lost_step_1 r = row_step sample first_rules _ _ reply_lost_start lost_2 lost_ledger tt ((lit≤ tt, lit≤ tt), inl refl) refl r

lost_step_2 : IsRow sample first_rules (drop 3 lost_steps) lost_3 lost_ledger → IsRow sample first_rules (drop 2 lost_steps) lost_2 lost_ledger
unfolding plan read spell body number spelled request_at reply_at done_at debit_at release_at kind_of verdict_of size_of day_of marks.body marks.spell marks.mark_at marks.read_mark has_code hmac first_words schedule rounds compress hash_after digest_bytes sha256 request_in adds takes verdict verdict_by reply_to mark_after customer_sum same_kind is_worn ruling_in
lost_step_2 r = row_step sample first_rules _ _ lost_2 lost_3 lost_ledger tt (lit< tt, inl refl) refl r

lost_step_3 : IsRow sample first_rules (drop 4 lost_steps) lost_4 lost_ledger → IsRow sample first_rules (drop 3 lost_steps) lost_3 lost_ledger
unfolding plan read spell body number spelled request_at reply_at done_at debit_at release_at kind_of verdict_of size_of day_of marks.body marks.spell marks.mark_at marks.read_mark has_code hmac first_words schedule rounds compress hash_after digest_bytes sha256 request_in adds takes verdict verdict_by reply_to mark_after customer_sum same_kind is_worn
lost_step_3 r = row_step sample first_rules _ _ lost_3 lost_4 lost_ledger tt (lit< tt, inl refl) refl r

lost_step_4 : IsRow sample first_rules (drop 5 lost_steps) lost_4 lost_ledger → IsRow sample first_rules (drop 4 lost_steps) lost_4 lost_ledger
unfolding plan read spell body number spelled request_at reply_at done_at debit_at release_at kind_of verdict_of size_of day_of marks.body marks.spell marks.mark_at marks.read_mark has_code hmac first_words schedule rounds compress hash_after digest_bytes sha256 request_in adds takes verdict verdict_by reply_to mark_after customer_sum same_kind is_worn
lost_step_4 r = row_step sample first_rules _ _ lost_4 lost_4 lost_ledger tt (lit< tt, inl refl) refl r

lost_step_5 : IsRow sample first_rules (drop 6 lost_steps) lost_4 lost_ledger → IsRow sample first_rules (drop 5 lost_steps) lost_4 lost_ledger
unfolding plan read spell body number spelled request_at reply_at done_at debit_at release_at kind_of verdict_of size_of day_of marks.body marks.spell marks.mark_at marks.read_mark has_code hmac first_words schedule rounds compress hash_after digest_bytes sha256 request_in adds takes verdict verdict_by reply_to mark_after customer_sum same_kind is_worn
lost_step_5 r = row_step sample first_rules _ _ lost_4 lost_4 lost_ledger tt ((lit≤ tt, lit≤ tt), inl refl) refl r

lost_step_6 : IsRow sample first_rules (drop 7 lost_steps) lost_7 lost_ledger → IsRow sample first_rules (drop 6 lost_steps) lost_4 lost_ledger
unfolding plan read spell body number spelled request_at reply_at done_at debit_at release_at kind_of verdict_of size_of day_of marks.body marks.spell marks.mark_at marks.read_mark has_code hmac first_words schedule rounds compress hash_after digest_bytes sha256 request_in adds takes verdict verdict_by reply_to mark_after customer_sum same_kind is_worn
lost_step_6 r = row_step sample first_rules _ _ lost_4 lost_7 lost_ledger tt ((lit≤ tt, lit≤ tt), inl refl) refl r

lost_step_7 : IsRow sample first_rules (drop 8 lost_steps) lost_ledger lost_ledger → IsRow sample first_rules (drop 7 lost_steps) lost_7 lost_ledger
unfolding plan read spell body number spelled request_at reply_at done_at debit_at release_at kind_of verdict_of size_of day_of marks.body marks.spell marks.mark_at marks.read_mark has_code hmac first_words schedule rounds compress hash_after digest_bytes sha256 request_in adds takes verdict verdict_by reply_to mark_after customer_sum same_kind is_worn
lost_step_7 r = row_step sample first_rules _ _ lost_7 lost_ledger lost_ledger tt (lit< tt, inl refl) refl r

lost_step_8 : IsRow sample first_rules (drop 9 lost_steps) lost_ledger lost_ledger → IsRow sample first_rules (drop 8 lost_steps) lost_ledger lost_ledger
unfolding plan read spell body number spelled request_at reply_at done_at debit_at release_at kind_of verdict_of size_of day_of marks.body marks.spell marks.mark_at marks.read_mark has_code hmac first_words schedule rounds compress hash_after digest_bytes sha256 request_in adds takes verdict verdict_by reply_to mark_after customer_sum same_kind is_worn
lost_step_8 r = row_step sample first_rules _ _ lost_ledger lost_ledger lost_ledger tt (lit< tt, inl refl) refl r

lost_step_9 : IsRow sample first_rules (drop 10 lost_steps) lost_ledger lost_ledger → IsRow sample first_rules (drop 9 lost_steps) lost_ledger lost_ledger
unfolding plan read spell body number spelled request_at reply_at done_at debit_at release_at kind_of verdict_of size_of day_of marks.body marks.spell marks.mark_at marks.read_mark has_code hmac first_words schedule rounds compress hash_after digest_bytes sha256 request_in adds takes verdict verdict_by reply_to mark_after customer_sum same_kind is_worn
lost_step_9 r = row_step sample first_rules _ _ lost_ledger lost_ledger lost_ledger tt ((lit≤ tt, lit≤ tt), inl refl) refl r

pub lost_row : IsRow sample first_rules lost_steps reply_lost_start lost_ledger
lost_row = lost_step_0 (lost_step_1 (lost_step_2 (lost_step_3 (lost_step_4 (lost_step_5 (lost_step_6 (lost_step_7 (lost_step_8 (lost_step_9 (row_done sample first_rules lost_ledger))))))))))

-- == refund ==

abbrev refund_1 : Ledger
refund_1 = e.Released 1 1 mark_1 ∷ e.Commit (c.Debited 1 1 550 1 (pos 20513) 1) ∷ settled_ledger

abbrev refund_2 : Ledger
refund_2 = e.Sent refund_4 ∷ e.Commit (c.Asked 1 4 refund_4) ∷ refund_1

abbrev refund_5 : Ledger
refund_5 = e.Torn Centre (c.Ruled 1 4 Granted refund_4) ∷ refund_2

abbrev refund_6 : Ledger
refund_6 = e.Up Centre 8 ∷ refund_5

abbrev refund_7 : Ledger
refund_7 = e.Sent refund_4 ∷ refund_6

abbrev refund_8 : Ledger
refund_8 = e.Sent refund_granted ∷ refund_7

refund_step_0 : IsRow sample first_rules (drop 1 refund_steps) refund_1 refund_ledger → IsRow sample first_rules (drop 0 refund_steps) settled_ledger refund_ledger
unfolding plan read spell body number spelled request_at reply_at done_at debit_at release_at kind_of verdict_of size_of day_of marks.body marks.spell marks.mark_at marks.read_mark has_code hmac first_words schedule rounds compress hash_after digest_bytes sha256 request_in adds takes verdict verdict_by reply_to mark_after customer_sum same_kind is_worn
refund_step_0 r = row_step sample first_rules _ _ settled_ledger refund_1 refund_ledger tt (((lit≤ tt, lit≤ tt), lit< tt, lit< tt, lit< tt), inl refl) refl r

refund_step_1 : IsRow sample first_rules (drop 2 refund_steps) refund_2 refund_ledger → IsRow sample first_rules (drop 1 refund_steps) refund_1 refund_ledger
unfolding plan read spell body number spelled request_at reply_at done_at debit_at release_at kind_of verdict_of size_of day_of marks.body marks.spell marks.mark_at marks.read_mark has_code hmac first_words schedule rounds compress hash_after digest_bytes sha256 request_in adds takes verdict verdict_by reply_to mark_after customer_sum same_kind is_worn
refund_step_1 r = row_step sample first_rules _ _ refund_1 refund_2 refund_ledger tt (((lit≤ tt, lit≤ tt), (refl, refl)), inl refl) refl r

refund_step_2 : IsRow sample first_rules (drop 3 refund_steps) refund_2 refund_ledger → IsRow sample first_rules (drop 2 refund_steps) refund_2 refund_ledger
unfolding plan read spell body number spelled request_at reply_at done_at debit_at release_at kind_of verdict_of size_of day_of marks.body marks.spell marks.mark_at marks.read_mark has_code hmac first_words schedule rounds compress hash_after digest_bytes sha256 request_in adds takes verdict verdict_by reply_to mark_after customer_sum same_kind is_worn
refund_step_2 r = row_step sample first_rules _ _ refund_2 refund_2 refund_ledger tt (((lit≤ tt, lit≤ tt), lit< tt, lit< tt, lit< tt), inl refl) refl r

refund_step_3 : IsRow sample first_rules (drop 4 refund_steps) refund_2 refund_ledger → IsRow sample first_rules (drop 3 refund_steps) refund_2 refund_ledger
unfolding plan read spell body number spelled request_at reply_at done_at debit_at release_at kind_of verdict_of size_of day_of marks.body marks.spell marks.mark_at marks.read_mark has_code hmac first_words schedule rounds compress hash_after digest_bytes sha256 request_in adds takes verdict verdict_by reply_to mark_after customer_sum same_kind is_worn
refund_step_3 r = row_step sample first_rules _ _ refund_2 refund_2 refund_ledger tt ((tt, lit< tt, lit< tt, lit< tt), inl refl) refl r

refund_step_4 : IsRow sample first_rules (drop 5 refund_steps) refund_5 refund_ledger → IsRow sample first_rules (drop 4 refund_steps) refund_2 refund_ledger
unfolding plan read spell body number spelled request_at reply_at done_at debit_at release_at kind_of verdict_of size_of day_of marks.body marks.spell marks.mark_at marks.read_mark has_code hmac first_words schedule rounds compress hash_after digest_bytes sha256 request_in adds takes verdict verdict_by reply_to mark_after customer_sum same_kind is_worn
refund_step_4 r = row_step sample first_rules _ _ refund_2 refund_5 refund_ledger tt (lit< tt, inr (inr (inl (inr (c.Ruled 1 4 Granted refund_4, refl, refl))))) refl r

refund_step_5 : IsRow sample first_rules (drop 6 refund_steps) refund_6 refund_ledger → IsRow sample first_rules (drop 5 refund_steps) refund_5 refund_ledger
unfolding plan read spell body number spelled request_at reply_at done_at debit_at release_at kind_of verdict_of size_of day_of marks.body marks.spell marks.mark_at marks.read_mark has_code hmac first_words schedule rounds compress hash_after digest_bytes sha256 request_in adds takes verdict verdict_by reply_to mark_after customer_sum same_kind is_worn
refund_step_5 r = row_step sample first_rules _ _ refund_5 refund_6 refund_ledger tt (tt, inr (inl (record { node = Centre; count = _; answer_is = refl; more = refl; torn = refl }))) refl r

refund_step_6 : IsRow sample first_rules (drop 7 refund_steps) refund_7 refund_ledger → IsRow sample first_rules (drop 6 refund_steps) refund_6 refund_ledger
unfolding plan read spell body number spelled request_at reply_at done_at debit_at release_at kind_of verdict_of size_of day_of marks.body marks.spell marks.mark_at marks.read_mark has_code hmac first_words schedule rounds compress hash_after digest_bytes sha256 request_in adds takes verdict verdict_by reply_to mark_after customer_sum same_kind is_worn
refund_step_6 r = row_step sample first_rules _ _ refund_6 refund_7 refund_ledger tt ((lit≤ tt, lit≤ tt), inl refl) refl r

refund_step_7 : IsRow sample first_rules (drop 8 refund_steps) refund_8 refund_ledger → IsRow sample first_rules (drop 7 refund_steps) refund_7 refund_ledger
unfolding plan read spell body number spelled request_at reply_at done_at debit_at release_at kind_of verdict_of size_of day_of marks.body marks.spell marks.mark_at marks.read_mark has_code hmac first_words schedule rounds compress hash_after digest_bytes sha256 request_in adds takes verdict verdict_by reply_to mark_after customer_sum same_kind is_worn ruling_in
refund_step_7 r = row_step sample first_rules _ _ refund_7 refund_8 refund_ledger tt (lit< tt, inl refl) refl r

refund_step_8 : IsRow sample first_rules (drop 9 refund_steps) refund_ledger refund_ledger → IsRow sample first_rules (drop 8 refund_steps) refund_8 refund_ledger
unfolding plan read spell body number spelled request_at reply_at done_at debit_at release_at kind_of verdict_of size_of day_of marks.body marks.spell marks.mark_at marks.read_mark has_code hmac first_words schedule rounds compress hash_after digest_bytes sha256 request_in adds takes verdict verdict_by reply_to mark_after customer_sum same_kind is_worn
refund_step_8 r = row_step sample first_rules _ _ refund_8 refund_ledger refund_ledger tt (lit< tt, inl refl) refl r

refund_step_9 : IsRow sample first_rules (drop 10 refund_steps) refund_ledger refund_ledger → IsRow sample first_rules (drop 9 refund_steps) refund_ledger refund_ledger
unfolding plan read spell body number spelled request_at reply_at done_at debit_at release_at kind_of verdict_of size_of day_of marks.body marks.spell marks.mark_at marks.read_mark has_code hmac first_words schedule rounds compress hash_after digest_bytes sha256 request_in adds takes verdict verdict_by reply_to mark_after customer_sum same_kind is_worn
refund_step_9 r = row_step sample first_rules _ _ refund_ledger refund_ledger refund_ledger tt ((lit≤ tt, lit≤ tt), inl refl) refl r

refund_step_10 : IsRow sample first_rules (drop 11 refund_steps) refund_ledger refund_ledger → IsRow sample first_rules (drop 10 refund_steps) refund_ledger refund_ledger
unfolding plan read spell body number spelled request_at reply_at done_at debit_at release_at kind_of verdict_of size_of day_of marks.body marks.spell marks.mark_at marks.read_mark has_code hmac first_words schedule rounds compress hash_after digest_bytes sha256 request_in adds takes verdict verdict_by reply_to mark_after customer_sum same_kind is_worn
refund_step_10 r = row_step sample first_rules _ _ refund_ledger refund_ledger refund_ledger tt ((lit≤ tt, lit≤ tt), inl refl) refl r

pub refund_row : IsRow sample first_rules refund_steps settled_ledger refund_ledger
refund_row = refund_step_0 (refund_step_1 (refund_step_2 (refund_step_3 (refund_step_4 (refund_step_5 (refund_step_6 (refund_step_7 (refund_step_8 (refund_step_9 (refund_step_10 (row_done sample first_rules refund_ledger)))))))))))

-- == withdrawal ==

abbrev withdrawal_1 : Ledger
withdrawal_1 = e.Sent withdraw_4 ∷ e.Commit (c.Asked 1 4 withdraw_4) ∷ settled_ledger

abbrev withdrawal_2 : Ledger
withdrawal_2 = e.Sent withdraw_granted ∷ e.Commit (c.Ruled 1 4 Granted withdraw_4) ∷ withdrawal_1

abbrev withdrawal_3 : Ledger
withdrawal_3 = e.Commit (c.Applied 1 4 Granted) ∷ withdrawal_2

withdrawal_step_0 : IsRow sample first_rules (drop 1 withdrawal_steps) withdrawal_1 withdrawal_ledger → IsRow sample first_rules (drop 0 withdrawal_steps) settled_ledger withdrawal_ledger
unfolding plan read spell body number spelled request_at reply_at done_at debit_at release_at kind_of verdict_of size_of day_of marks.body marks.spell marks.mark_at marks.read_mark has_code hmac first_words schedule rounds compress hash_after digest_bytes sha256 request_in adds takes verdict verdict_by reply_to mark_after customer_sum same_kind is_worn
withdrawal_step_0 r = row_step sample first_rules _ _ settled_ledger withdrawal_1 withdrawal_ledger tt (((lit≤ tt, lit≤ tt), (refl, refl)), inl refl) refl r

withdrawal_step_1 : IsRow sample first_rules (drop 2 withdrawal_steps) withdrawal_2 withdrawal_ledger → IsRow sample first_rules (drop 1 withdrawal_steps) withdrawal_1 withdrawal_ledger
unfolding plan read spell body number spelled request_at reply_at done_at debit_at release_at kind_of verdict_of size_of day_of marks.body marks.spell marks.mark_at marks.read_mark has_code hmac first_words schedule rounds compress hash_after digest_bytes sha256 request_in adds takes verdict verdict_by reply_to mark_after customer_sum same_kind is_worn
withdrawal_step_1 r = row_step sample first_rules _ _ withdrawal_1 withdrawal_2 withdrawal_ledger tt (lit< tt, inl refl) refl r

withdrawal_step_2 : IsRow sample first_rules (drop 3 withdrawal_steps) withdrawal_3 withdrawal_ledger → IsRow sample first_rules (drop 2 withdrawal_steps) withdrawal_2 withdrawal_ledger
unfolding plan read spell body number spelled request_at reply_at done_at debit_at release_at kind_of verdict_of size_of day_of marks.body marks.spell marks.mark_at marks.read_mark has_code hmac first_words schedule rounds compress hash_after digest_bytes sha256 request_in adds takes verdict verdict_by reply_to mark_after customer_sum same_kind is_worn
withdrawal_step_2 r = row_step sample first_rules _ _ withdrawal_2 withdrawal_3 withdrawal_ledger tt (lit< tt, inl refl) refl r

withdrawal_step_3 : IsRow sample first_rules (drop 4 withdrawal_steps) withdrawal_3 withdrawal_ledger → IsRow sample first_rules (drop 3 withdrawal_steps) withdrawal_3 withdrawal_ledger
unfolding plan read spell body number spelled request_at reply_at done_at debit_at release_at kind_of verdict_of size_of day_of marks.body marks.spell marks.mark_at marks.read_mark has_code hmac first_words schedule rounds compress hash_after digest_bytes sha256 request_in adds takes verdict verdict_by reply_to mark_after customer_sum same_kind is_worn
withdrawal_step_3 r = row_step sample first_rules _ _ withdrawal_3 withdrawal_3 withdrawal_ledger tt ((lit≤ tt, lit≤ tt), inl refl) refl r

withdrawal_step_4 : IsRow sample first_rules (drop 5 withdrawal_steps) withdrawal_3 withdrawal_ledger → IsRow sample first_rules (drop 4 withdrawal_steps) withdrawal_3 withdrawal_ledger
unfolding plan read spell body number spelled request_at reply_at done_at debit_at release_at kind_of verdict_of size_of day_of marks.body marks.spell marks.mark_at marks.read_mark has_code hmac first_words schedule rounds compress hash_after digest_bytes sha256 request_in adds takes verdict verdict_by reply_to mark_after customer_sum same_kind is_worn
withdrawal_step_4 r = row_step sample first_rules _ _ withdrawal_3 withdrawal_3 withdrawal_ledger tt ((lit≤ tt, lit≤ tt), inl refl) refl r

withdrawal_step_5 : IsRow sample first_rules (drop 6 withdrawal_steps) withdrawal_3 withdrawal_ledger → IsRow sample first_rules (drop 5 withdrawal_steps) withdrawal_3 withdrawal_ledger
unfolding plan read spell body number spelled request_at reply_at done_at debit_at release_at kind_of verdict_of size_of day_of marks.body marks.spell marks.mark_at marks.read_mark has_code hmac first_words schedule rounds compress hash_after digest_bytes sha256 request_in adds takes verdict verdict_by reply_to mark_after customer_sum same_kind is_worn
withdrawal_step_5 r = row_step sample first_rules _ _ withdrawal_3 withdrawal_3 withdrawal_ledger tt (((lit≤ tt, lit≤ tt), lit< tt, lit< tt, lit< tt), inl refl) refl r

withdrawal_step_6 : IsRow sample first_rules (drop 7 withdrawal_steps) withdrawal_ledger withdrawal_ledger → IsRow sample first_rules (drop 6 withdrawal_steps) withdrawal_3 withdrawal_ledger
unfolding plan read spell body number spelled request_at reply_at done_at debit_at release_at kind_of verdict_of size_of day_of marks.body marks.spell marks.mark_at marks.read_mark has_code hmac first_words schedule rounds compress hash_after digest_bytes sha256 request_in adds takes verdict verdict_by reply_to mark_after customer_sum same_kind is_worn
withdrawal_step_6 r = row_step sample first_rules _ _ withdrawal_3 withdrawal_ledger withdrawal_ledger tt ((lit≤ tt, lit≤ tt), inl refl) refl r

pub withdrawal_row : IsRow sample first_rules withdrawal_steps settled_ledger withdrawal_ledger
withdrawal_row = withdrawal_step_0 (withdrawal_step_1 (withdrawal_step_2 (withdrawal_step_3 (withdrawal_step_4 (withdrawal_step_5 (withdrawal_step_6 (row_done sample first_rules withdrawal_ledger)))))))

-- == funds ==

abbrev funds_1 : Ledger
funds_1 = e.Sent reset_50001 ∷ e.Commit (c.Asked 1 4 reset_50001) ∷ settled_ledger

abbrev funds_4 : Ledger
funds_4 = e.Sent no_funds_4 ∷ e.Commit (c.Ruled 1 4 NoFunds reset_50001) ∷ funds_1

abbrev funds_5 : Ledger
funds_5 = e.Commit (c.Applied 1 4 NoFunds) ∷ funds_4

abbrev funds_6 : Ledger
funds_6 = e.Commit (c.Flagged 1 true) ∷ funds_5

abbrev funds_7 : Ledger
funds_7 = e.Sent reset_5 ∷ e.Commit (c.Asked 1 5 reset_5) ∷ funds_6

funds_step_0 : IsRow sample first_rules (drop 1 funds_steps) funds_1 funds_ledger → IsRow sample first_rules (drop 0 funds_steps) settled_ledger funds_ledger
unfolding plan read spell body number spelled request_at reply_at done_at debit_at release_at kind_of verdict_of size_of day_of marks.body marks.spell marks.mark_at marks.read_mark has_code hmac first_words schedule rounds compress hash_after digest_bytes sha256 request_in adds takes verdict verdict_by reply_to mark_after customer_sum same_kind is_worn
funds_step_0 r = row_step sample first_rules _ _ settled_ledger funds_1 funds_ledger tt (((lit≤ tt, lit≤ tt), (refl, lit< tt)), inl refl) refl r

funds_step_1 : IsRow sample first_rules (drop 2 funds_steps) funds_1 funds_ledger → IsRow sample first_rules (drop 1 funds_steps) funds_1 funds_ledger
unfolding plan read spell body number spelled request_at reply_at done_at debit_at release_at kind_of verdict_of size_of day_of marks.body marks.spell marks.mark_at marks.read_mark has_code hmac first_words schedule rounds compress hash_after digest_bytes sha256 request_in adds takes verdict verdict_by reply_to mark_after customer_sum same_kind is_worn
funds_step_1 r = row_step sample first_rules _ _ funds_1 funds_1 funds_ledger tt (((lit≤ tt, lit≤ tt), (refl, refl)), inl refl) refl r

funds_step_2 : IsRow sample first_rules (drop 3 funds_steps) funds_1 funds_ledger → IsRow sample first_rules (drop 2 funds_steps) funds_1 funds_ledger
unfolding plan read spell body number spelled request_at reply_at done_at debit_at release_at kind_of verdict_of size_of day_of marks.body marks.spell marks.mark_at marks.read_mark has_code hmac first_words schedule rounds compress hash_after digest_bytes sha256 request_in adds takes verdict verdict_by reply_to mark_after customer_sum same_kind is_worn
funds_step_2 r = row_step sample first_rules _ _ funds_1 funds_1 funds_ledger tt (lit< tt, inl refl) refl r

funds_step_3 : IsRow sample first_rules (drop 4 funds_steps) funds_4 funds_ledger → IsRow sample first_rules (drop 3 funds_steps) funds_1 funds_ledger
unfolding plan read spell body number spelled request_at reply_at done_at debit_at release_at kind_of verdict_of size_of day_of marks.body marks.spell marks.mark_at marks.read_mark has_code hmac first_words schedule rounds compress hash_after digest_bytes sha256 request_in adds takes verdict verdict_by reply_to mark_after customer_sum same_kind is_worn
funds_step_3 r = row_step sample first_rules _ _ funds_1 funds_4 funds_ledger tt (lit< tt, inl refl) refl r

funds_step_4 : IsRow sample first_rules (drop 5 funds_steps) funds_5 funds_ledger → IsRow sample first_rules (drop 4 funds_steps) funds_4 funds_ledger
unfolding plan read spell body number spelled request_at reply_at done_at debit_at release_at kind_of verdict_of size_of day_of marks.body marks.spell marks.mark_at marks.read_mark has_code hmac first_words schedule rounds compress hash_after digest_bytes sha256 request_in adds takes verdict verdict_by reply_to mark_after customer_sum same_kind is_worn
funds_step_4 r = row_step sample first_rules _ _ funds_4 funds_5 funds_ledger tt (lit< tt, inl refl) refl r

funds_step_5 : IsRow sample first_rules (drop 6 funds_steps) funds_6 funds_ledger → IsRow sample first_rules (drop 5 funds_steps) funds_5 funds_ledger
unfolding plan read spell body number spelled request_at reply_at done_at debit_at release_at kind_of verdict_of size_of day_of marks.body marks.spell marks.mark_at marks.read_mark has_code hmac first_words schedule rounds compress hash_after digest_bytes sha256 request_in adds takes verdict verdict_by reply_to mark_after customer_sum same_kind is_worn
funds_step_5 r = row_step sample first_rules _ _ funds_5 funds_6 funds_ledger tt ((lit≤ tt, lit≤ tt), inl refl) refl r

funds_step_6 : IsRow sample first_rules (drop 7 funds_steps) funds_7 funds_ledger → IsRow sample first_rules (drop 6 funds_steps) funds_6 funds_ledger
unfolding plan read spell body number spelled request_at reply_at done_at debit_at release_at kind_of verdict_of size_of day_of marks.body marks.spell marks.mark_at marks.read_mark has_code hmac first_words schedule rounds compress hash_after digest_bytes sha256 request_in adds takes verdict verdict_by reply_to mark_after customer_sum same_kind is_worn
funds_step_6 r = row_step sample first_rules _ _ funds_6 funds_7 funds_ledger tt (((lit≤ tt, lit≤ tt), (refl, lit< tt)), inl refl) refl r

funds_step_7 : IsRow sample first_rules (drop 8 funds_steps) funds_ledger funds_ledger → IsRow sample first_rules (drop 7 funds_steps) funds_7 funds_ledger
unfolding plan read spell body number spelled request_at reply_at done_at debit_at release_at kind_of verdict_of size_of day_of marks.body marks.spell marks.mark_at marks.read_mark has_code hmac first_words schedule rounds compress hash_after digest_bytes sha256 request_in adds takes verdict verdict_by reply_to mark_after customer_sum same_kind is_worn
funds_step_7 r = row_step sample first_rules _ _ funds_7 funds_ledger funds_ledger tt (lit< tt, inl refl) refl r

funds_step_8 : IsRow sample first_rules (drop 9 funds_steps) funds_ledger funds_ledger → IsRow sample first_rules (drop 8 funds_steps) funds_ledger funds_ledger
unfolding plan read spell body number spelled request_at reply_at done_at debit_at release_at kind_of verdict_of size_of day_of marks.body marks.spell marks.mark_at marks.read_mark has_code hmac first_words schedule rounds compress hash_after digest_bytes sha256 request_in adds takes verdict verdict_by reply_to mark_after customer_sum same_kind is_worn
funds_step_8 r = row_step sample first_rules _ _ funds_ledger funds_ledger funds_ledger tt (lit< tt, inl refl) refl r

pub funds_row : IsRow sample first_rules funds_steps settled_ledger funds_ledger
funds_row = funds_step_0 (funds_step_1 (funds_step_2 (funds_step_3 (funds_step_4 (funds_step_5 (funds_step_6 (funds_step_7 (funds_step_8 (row_done sample first_rules funds_ledger)))))))))
