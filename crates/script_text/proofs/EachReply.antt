-- Each reply has its text: its bytes are above the space, so that it is one line and its words determine it. The text determines the
-- reply, except for the number in a fault of a mark.
use Rattle.std.proofs.Common.{◌≡◌, ◌≢◌, ℕ, zero, suc, ℤ, ◌<◌, List, [], ◌∷◌, ◌++◌, true, false, Option, Some, None, refl, arith, codes, length, drop, cond, eqb, sym, ap, ◌∙◌}
use Rattle.std.specs.List.{All, AllByRecursion}
use Rattle.bench_base.specs.declared.{words.Phase.Phase, words.Kind.Kind, words.Verdict.Verdict, events.Reply.Reply, words.Kind.TheVariants.Enrol, words.Kind.TheVariants.Reset, words.Kind.TheVariants.Audit, words.Kind.TheVariants.Refund, words.Kind.TheVariants.Withdraw, events.DevView.DevView}
use Rattle.bench_base.specs.declared.words.Verdict.TheVariants as verdict
use Rattle.bench_base.specs.declared.events.Reply.TheVariants as reply
use Rattle.script_words.specs.Words.{words_in, joined, spaced}
use Rattle.script_text.specs.Texts.{verdict_word, pending_word, flight_words, reply_words, text_of, IsFlight, IsWholeReply, told}
use Rattle.script_words.proofs.Splits.{Printed, ArePrinted, AreSolid-printed, words_in_joined}
use Rattle.script_text.proofs.ReadBack.{same, at, first_byte, number_in, device_in, node_in, hex_in, kind_in, again_in, signed_in, number_again, word_again, small_again, device_again, node_again, hex_again, again_again, signed_again}
use Rattle.script_text.proofs.RefusalsBack.{phase_in, phase_again, dev_in, dev_again, centre_in, centre_again, host_in, host_again, scan_in, scan_again}
use Rattle.script_text.proofs.PrintedWords.{literal, number, word, customer, device, node, digits, newness, phase_printed, verdict_printed, day_small, word_small, signed, flagged, pending, flight_printed, dev_printed, centre_printed, host_printed, scan_printed}
use Rattle.script_text.proofs.EachEvent.{node_is}

-- == its bytes are above the space ==

-- there is a first word, and the bytes of each are above the space
abbrev AreWords : List (List ℕ) → Type 0
AreWords [] = ⊥
AreWords (w ∷ ws) = ArePrinted (w ∷ ws)

reply_printed : (r : Reply) → IsWholeReply r → AreWords (reply_words r)
unfolding reply_words
reply_printed (reply.Day t) h = (literal (codes "day") refl, (signed t (day_small t h), tt))
reply_printed (reply.Rates classes zones) h = (literal (codes "rates") refl, (word classes h.0, (word zones h.1, tt)))
reply_printed reply.RatesFault h = (literal (codes "rates") refl, (literal (codes "fault") refl, tt))
reply_printed reply.RatesLength h = (literal (codes "rates") refl, (literal (codes "length") refl, tt))
reply_printed reply.RatesToml h = (literal (codes "rates") refl, (literal (codes "toml") refl, tt))
reply_printed reply.RatesForm h = (literal (codes "rates") refl, (literal (codes "form") refl, tt))
reply_printed (reply.Made d) h = (literal (codes "made") refl, (device d h, tt))
reply_printed (reply.Up n commits) h = (literal (codes "up") refl, (node n h.0, (literal (codes "commits") refl, (number commits h.1, tt))))
reply_printed (reply.Down n) h = (literal (codes "down") refl, (node n h, tt))
reply_printed (reply.CutSet n) h = (literal (codes "cut") refl, (node n h, tt))
reply_printed (reply.Marked d piece again mark) h = (literal (codes "mark") refl, (device d h.0, (word piece h.1, (newness again, (digits mark h.2.1, tt)))))
reply_printed (reply.SentRequest d number k) h = (literal (codes "sent") refl, (device d h.0, (literal (codes "request") refl, (word number h.1, (literal (codes "msg") refl, (word k h.2, tt))))))
reply_printed (reply.SentDone d number k) h = (literal (codes "sent") refl, (device d h.0, (literal (codes "done") refl, (word number h.1, (literal (codes "msg") refl, (word k h.2, tt))))))
reply_printed (reply.Registered d) h = (literal (codes "registered") refl, (device d h, tt))
reply_printed (reply.Opened c) h = (literal (codes "opened") refl, (customer c h, tt))
reply_printed (reply.Deposited c receipt again total) h = (literal (codes "deposited") refl, (customer c h.0, (word receipt h.1, (newness again, (number total h.2, tt)))))
reply_printed (reply.Balance c total) h = (literal (codes "balance") refl, (customer c h.0, (number total h.1, tt)))
reply_printed (reply.Ruled d number verdict again k) h = (literal (codes "ruled") refl, (device d h.0, (word number h.1, (literal (codes "verdict") refl, (verdict_printed verdict, (newness again, (literal (codes "msg") refl, (word k h.2, tt))))))))
reply_printed (reply.Settled d number again) h = (literal (codes "settled") refl, (device d h.0, (word number h.1, (newness again, tt))))
reply_printed (reply.Applied d number verdict) h = (literal (codes "applied") refl, (device d h.0, (word number h.1, (literal (codes "verdict") refl, (verdict_printed verdict, tt)))))
reply_printed (reply.Released d piece again k) h = (literal (codes "released") refl, (device d h.0, (word piece h.1, (newness again, (literal (codes "msg") refl, (word k h.2, tt))))))
reply_printed (reply.Held j) h = (literal (codes "held") refl, (word j h, tt))
reply_printed (reply.Ordered j postage) h = (literal (codes "ordered") refl, (word j h.0, (literal (codes "postage") refl, (word postage h.1, tt))))
reply_printed (reply.SentDebit j k) h = (literal (codes "sent") refl, (literal (codes "host") refl, (literal (codes "debit") refl, (word j h.0, (literal (codes "msg") refl, (word k h.1, tt))))))
reply_printed (reply.Printed j) h = (literal (codes "printed") refl, (word j h, tt))
reply_printed (reply.PrinterFault j) h = (literal (codes "printer") refl, (literal (codes "fault") refl, (word j h, tt)))
reply_printed (reply.Closed j) h = (literal (codes "closed") refl, (word j h, tt))
reply_printed (reply.Trusted d) h = (literal (codes "trusted") refl, (device d h, tt))
reply_printed (reply.Accepted d piece scan again) h = (literal (codes "accepted") refl, (device d h.0, (word piece h.1, (literal (codes "scan") refl, (word scan h.2, (newness again, tt))))))
reply_printed reply.End h = (literal (codes "end") refl, tt)
reply_printed reply.NoDay h = (literal (codes "no") refl, (literal (codes "day") refl, tt))
reply_printed (reply.NoMessage k) h = (literal (codes "no") refl, (literal (codes "message") refl, (word k h, tt)))
reply_printed (reply.OffNode n) h = (literal (codes "off") refl, (node n h, tt))
reply_printed (reply.OnAlready n) h = (literal (codes "on") refl, (literal (codes "already") refl, (node n h, tt)))
reply_printed (reply.Power n) h = (literal (codes "power") refl, (node n h, tt))
reply_printed (reply.Fault n) h = (literal (codes "fault") refl, (node n h, tt))
reply_printed (reply.Worn n) h = (literal (codes "worn") refl, (node n h, tt))
reply_printed (reply.Damaged n) h = (literal (codes "damaged") refl, (node n h, tt))
reply_printed (reply.Status d v) h = (literal (codes "status") refl, (device d h.0, (phase_printed v.phase, (literal (codes "ascending") refl, (number v.ascending h.1, (literal (codes "descending") refl, (number v.descending h.2, (literal (codes "refunded") refl, (number v.refunded h.3, (literal (codes "pieces") refl, (word v.pieces h.4, (literal (codes "number") refl, (word v.number h.5, (literal (codes "deadline") refl, (signed v.deadline (word_small v.deadline h.6), (literal (codes "pending") refl, (pending v.pending, tt)))))))))))))))))
reply_printed (reply.Flagged c suspended) h = (flagged suspended, (customer c h, tt))
reply_printed (reply.Reconciled d own centre flight) h = (literal (codes "reconcile") refl, (device d h.0, (literal (codes "device") refl, (number own h.1, (literal (codes "centre") refl, (number centre h.2, (literal (codes "in-flight") refl, flight_printed flight h.3)))))))
reply_printed (reply.DevRefused d r) h = (literal (codes "refused") refl, (device d h.0, dev_printed r h.1))
reply_printed (reply.CentreRefused r) h = (literal (codes "refused") refl, (literal (codes "centre") refl, centre_printed r h))
reply_printed (reply.HostRefused r) h = (literal (codes "refused") refl, (literal (codes "host") refl, host_printed r h))
reply_printed (reply.ScanRefused r) h = (literal (codes "refused") refl, (literal (codes "verifier") refl, scan_printed r h))

some_joined : (ws : List (List ℕ)) → AreWords ws → words_in (joined ws) ≡ ws
some_joined [] h = absurd h
some_joined (w ∷ ws) h = words_in_joined w ws (AreSolid-printed (w ∷ ws) h)

-- the words of a reply's text
pub words_in_text_of : (r : Reply) → IsWholeReply r → words_in (text_of r) ≡ reply_words r
words_in_text_of r h = some_joined (reply_words r) (reply_printed r h)

-- == a text is one line ==

abbrev HasNoEnd : List ℕ → Type 0
HasNoEnd bytes = AllByRecursion (λ c. c ≢ 10) bytes

-- so with a word in front of it
behind_word : (w rest : List ℕ) → Printed w → HasNoEnd rest → HasNoEnd (w ++ rest)
behind_word [] rest h k = k
behind_word (c ∷ w) rest h k = (above c h.0, behind_word w rest h.1 k)
  where
    above : (c : ℕ) → 32 < c → c ≢ 10
    above c h e = omega (arith, h, e)

spaced_words : (ws : List (List ℕ)) → ArePrinted ws → HasNoEnd (spaced ws)
spaced_words [] h = tt
spaced_words (w ∷ ws) h = (space 32 refl, behind_word w (spaced ws) h.0 (spaced_words ws h.1))
  where
    space : (c : ℕ) → c ≡ 32 → c ≢ 10
    space c is e = omega (arith, is, e)

joined_words : (ws : List (List ℕ)) → AreWords ws → HasNoEnd (joined ws)
joined_words [] h = tt
joined_words (w ∷ ws) h = behind_word w (spaced ws) h.0 (spaced_words ws h.1)

by_index : (bytes : List ℕ) → HasNoEnd bytes → All (λ c. c ≢ 10) bytes
by_index [] h k d lt = absurd (omega (arith, lt))
by_index (c ∷ bytes) h zero d lt = h.0
by_index (c ∷ bytes) h (suc k) d lt = by_index bytes h.1 k d (omega (arith, lt))

pub one_line_of : (r : Reply) → IsWholeReply r → All (λ c. c ≢ 10) (text_of r)
one_line_of r h = by_index (text_of r) (joined_words (reply_words r) (reply_printed r h))

-- == read back ==

abbrev verdict_of : ℕ → Verdict
verdict_of n = cond (eqb n 0) verdict.Granted (cond (eqb n 1) verdict.NotEnrolled (cond (eqb n 2) verdict.EnrolledAlready (cond (eqb n 3) verdict.NoCustomer (cond (eqb n 4) verdict.Suspended (cond (eqb n 5) verdict.NoFunds verdict.Imbalance)))))

abbrev verdict_in : List ℕ → Verdict
verdict_in w = verdict_of (number_in w)

verdict_again : (v : Verdict) → verdict_in (verdict_word v) ≡ v
verdict_again verdict.Granted = ap verdict_of (number_again 0 (omega arith))
verdict_again verdict.NotEnrolled = ap verdict_of (number_again 1 (omega arith))
verdict_again verdict.EnrolledAlready = ap verdict_of (number_again 2 (omega arith))
verdict_again verdict.NoCustomer = ap verdict_of (number_again 3 (omega arith))
verdict_again verdict.Suspended = ap verdict_of (number_again 4 (omega arith))
verdict_again verdict.NoFunds = ap verdict_of (number_again 5 (omega arith))
verdict_again verdict.Imbalance = ap verdict_of (number_again 6 (omega arith))

abbrev pending_in : List ℕ → Option Kind
pending_in w = cond (same w (codes "none")) None (Some (kind_in w))

pending_again : (p : Option Kind) → pending_in (pending_word p) ≡ p
pending_again None = refl
pending_again (Some Enrol) = refl
pending_again (Some Reset) = refl
pending_again (Some Audit) = refl
pending_again (Some Refund) = refl
pending_again (Some Withdraw) = refl

abbrev flight_in : List (List ℕ) → Option (Kind × ℕ)
flight_in ws = cond (same (at ws 0) (codes "none")) None (Some (kind_in (at ws 0), number_in (at ws 1)))

flight_again : (f : Option (Kind × ℕ)) → IsFlight f → flight_in (flight_words f) ≡ f
flight_again None h = refl
flight_again (Some (Enrol, n)) h = ap (λ (m : ℕ). Some (Enrol, m)) (number_again n h)
flight_again (Some (Reset, n)) h = ap (λ (m : ℕ). Some (Reset, m)) (number_again n h)
flight_again (Some (Audit, n)) h = ap (λ (m : ℕ). Some (Audit, m)) (number_again n h)
flight_again (Some (Refund, n)) h = ap (λ (m : ℕ). Some (Refund, m)) (number_again n h)
flight_again (Some (Withdraw, n)) h = ap (λ (m : ℕ). Some (Withdraw, m)) (number_again n h)

abbrev view_in : List (List ℕ) → DevView
view_in ws = record {
  phase = phase_in (at ws 2);
  ascending = number_in (at ws 4);
  descending = number_in (at ws 6);
  refunded = number_in (at ws 8);
  pieces = number_in (at ws 10);
  number = number_in (at ws 12);
  deadline = signed_in (at ws 14);
  pending = pending_in (at ws 16);
}

abbrev refused_in : List (List ℕ) → Reply
refused_in ws =
    cond (eqb (first_byte (at ws 1)) 99) (reply.CentreRefused (centre_in (drop 2 ws)))
    (cond (eqb (first_byte (at ws 1)) 104) (reply.HostRefused (host_in (drop 2 ws)))
    (cond (eqb (first_byte (at ws 1)) 118) (reply.ScanRefused (scan_in (drop 2 ws)))
    (reply.DevRefused (device_in (at ws 1)) (dev_in (drop 2 ws)))))

-- the reply of these words
abbrev reply_in : List (List ℕ) → Reply
reply_in ws =
    cond (same (at ws 0) (codes "day")) (reply.Day (signed_in (at ws 1)))
    (cond (same (at ws 0) (codes "rates")) (cond (eqb (length ws) 3) (reply.Rates (number_in (at ws 1)) (number_in (at ws 2))) (cond (same (at ws 1) (codes "fault")) reply.RatesFault (cond (same (at ws 1) (codes "length")) reply.RatesLength (cond (same (at ws 1) (codes "toml")) reply.RatesToml reply.RatesForm))))
    (cond (same (at ws 0) (codes "made")) (reply.Made (device_in (at ws 1)))
    (cond (same (at ws 0) (codes "up")) (reply.Up (node_in (at ws 1)) (number_in (at ws 3)))
    (cond (same (at ws 0) (codes "down")) (reply.Down (node_in (at ws 1)))
    (cond (same (at ws 0) (codes "cut")) (reply.CutSet (node_in (at ws 1)))
    (cond (same (at ws 0) (codes "mark")) (reply.Marked (device_in (at ws 1)) (number_in (at ws 2)) (again_in (at ws 3)) (hex_in (at ws 4)))
    (cond (same (at ws 0) (codes "sent")) (cond (same (at ws 2) (codes "request")) (reply.SentRequest (device_in (at ws 1)) (number_in (at ws 3)) (number_in (at ws 5))) (cond (same (at ws 2) (codes "done")) (reply.SentDone (device_in (at ws 1)) (number_in (at ws 3)) (number_in (at ws 5))) (reply.SentDebit (number_in (at ws 3)) (number_in (at ws 5)))))
    (cond (same (at ws 0) (codes "registered")) (reply.Registered (device_in (at ws 1)))
    (cond (same (at ws 0) (codes "opened")) (reply.Opened (number_in (at ws 1)))
    (cond (same (at ws 0) (codes "deposited")) (reply.Deposited (number_in (at ws 1)) (number_in (at ws 2)) (again_in (at ws 3)) (number_in (at ws 4)))
    (cond (same (at ws 0) (codes "balance")) (reply.Balance (number_in (at ws 1)) (number_in (at ws 2)))
    (cond (same (at ws 0) (codes "ruled")) (reply.Ruled (device_in (at ws 1)) (number_in (at ws 2)) (verdict_in (at ws 4)) (again_in (at ws 5)) (number_in (at ws 7)))
    (cond (same (at ws 0) (codes "settled")) (reply.Settled (device_in (at ws 1)) (number_in (at ws 2)) (again_in (at ws 3)))
    (cond (same (at ws 0) (codes "applied")) (reply.Applied (device_in (at ws 1)) (number_in (at ws 2)) (verdict_in (at ws 4)))
    (cond (same (at ws 0) (codes "released")) (reply.Released (device_in (at ws 1)) (number_in (at ws 2)) (again_in (at ws 3)) (number_in (at ws 5)))
    (cond (same (at ws 0) (codes "held")) (reply.Held (number_in (at ws 1)))
    (cond (same (at ws 0) (codes "ordered")) (reply.Ordered (number_in (at ws 1)) (number_in (at ws 3)))
    (cond (same (at ws 0) (codes "printed")) (reply.Printed (number_in (at ws 1)))
    (cond (same (at ws 0) (codes "printer")) (reply.PrinterFault (number_in (at ws 2)))
    (cond (same (at ws 0) (codes "closed")) (reply.Closed (number_in (at ws 1)))
    (cond (same (at ws 0) (codes "trusted")) (reply.Trusted (device_in (at ws 1)))
    (cond (same (at ws 0) (codes "accepted")) (reply.Accepted (device_in (at ws 1)) (number_in (at ws 2)) (number_in (at ws 4)) (again_in (at ws 5)))
    (cond (same (at ws 0) (codes "end")) reply.End
    (cond (same (at ws 0) (codes "no")) (cond (same (at ws 1) (codes "day")) reply.NoDay (reply.NoMessage (number_in (at ws 2))))
    (cond (same (at ws 0) (codes "off")) (reply.OffNode (node_in (at ws 1)))
    (cond (same (at ws 0) (codes "on")) (reply.OnAlready (node_in (at ws 2)))
    (cond (same (at ws 0) (codes "power")) (reply.Power (node_in (at ws 1)))
    (cond (same (at ws 0) (codes "fault")) (reply.Fault (node_in (at ws 1)))
    (cond (same (at ws 0) (codes "worn")) (reply.Worn (node_in (at ws 1)))
    (cond (same (at ws 0) (codes "damaged")) (reply.Damaged (node_in (at ws 1)))
    (cond (same (at ws 0) (codes "status")) (reply.Status (device_in (at ws 1)) (view_in ws))
    (cond (same (at ws 0) (codes "suspended")) (reply.Flagged (number_in (at ws 1)) true)
    (cond (same (at ws 0) (codes "resumed")) (reply.Flagged (number_in (at ws 1)) false)
    (cond (same (at ws 0) (codes "reconcile")) (reply.Reconciled (device_in (at ws 1)) (number_in (at ws 3)) (number_in (at ws 5)) (flight_in (drop 7 ws)))
    (refused_in ws)))))))))))))))))))))))))))))))))))

abbrev view_of : Phase → ℕ → ℕ → ℕ → ℕ → ℕ → ℤ → Option Kind → DevView
view_of p a d f n m t k = record { phase = p; ascending = a; descending = d; refunded = f; pieces = n; number = m; deadline = t; pending = k }

same_view : (p q : Phase) (a b c d e f g h i j : ℕ) (s t : ℤ) (k l : Option Kind) → p ≡ q → a ≡ b → c ≡ d → e ≡ f → g ≡ h → i ≡ j → s ≡ t → k ≡ l
    → view_of p a c e g i s k ≡ view_of q b d f h j t l
same_view p q a b c d e f g h i j s t k l e0 e1 e2 e3 e4 e5 e6 e7 = cc

view_again : (d : ℕ) (v : DevView) → IsWholeReply (reply.Status d v) → view_in (reply_words (reply.Status d v)) ≡ v
unfolding reply_words
view_again d v h =
    same_view _ v.phase _ v.ascending _ v.descending _ v.refunded _ v.pieces _ v.number _ v.deadline _ v.pending
    (phase_again v.phase) (number_again v.ascending h.1) (number_again v.descending h.2) (number_again v.refunded h.3)
    (word_again v.pieces h.4) (word_again v.number h.5) (signed_again v.deadline (word_small v.deadline h.6)) (pending_again v.pending)

reply_again : (r : Reply) → IsWholeReply r → reply_in (reply_words r) ≡ told r
unfolding reply_words
reply_again (reply.Day t) h = let e0 = signed_again t (day_small t h) in cc
reply_again (reply.Rates classes zones) h = let e0 = word_again classes h.0 in let e1 = word_again zones h.1 in cc
reply_again reply.RatesFault h = refl
reply_again reply.RatesLength h = refl
reply_again reply.RatesToml h = refl
reply_again reply.RatesForm h = refl
reply_again (reply.Made d) h = let e0 = device_again d h in cc
reply_again (reply.Up n commits) h = let e0 = node_again n (node_is n h.0) in let e1 = number_again commits h.1 in cc
reply_again (reply.Down n) h = let e0 = node_again n (node_is n h) in cc
reply_again (reply.CutSet n) h = let e0 = node_again n (node_is n h) in cc
reply_again (reply.Marked d piece again mark) h = let e0 = device_again d h.0 in let e1 = word_again piece h.1 in let e2 = again_again again in let e3 = hex_again mark h.2.1 in cc
reply_again (reply.SentRequest d number k) h = let e0 = device_again d h.0 in let e1 = word_again number h.1 in let e2 = word_again k h.2 in cc
reply_again (reply.SentDone d number k) h = let e0 = device_again d h.0 in let e1 = word_again number h.1 in let e2 = word_again k h.2 in cc
reply_again (reply.Registered d) h = let e0 = device_again d h in cc
reply_again (reply.Opened c) h = let e0 = small_again c 64 (omega arith) h in cc
reply_again (reply.Deposited c receipt again total) h = let e0 = small_again c 64 (omega arith) h.0 in let e1 = word_again receipt h.1 in let e2 = again_again again in let e3 = number_again total h.2 in cc
reply_again (reply.Balance c total) h = let e0 = small_again c 64 (omega arith) h.0 in let e1 = number_again total h.1 in cc
reply_again (reply.Ruled d number verdict again k) h = let e0 = device_again d h.0 in let e1 = word_again number h.1 in let e2 = verdict_again verdict in let e3 = again_again again in let e4 = word_again k h.2 in cc
reply_again (reply.Settled d number again) h = let e0 = device_again d h.0 in let e1 = word_again number h.1 in let e2 = again_again again in cc
reply_again (reply.Applied d number verdict) h = let e0 = device_again d h.0 in let e1 = word_again number h.1 in let e2 = verdict_again verdict in cc
reply_again (reply.Released d piece again k) h = let e0 = device_again d h.0 in let e1 = word_again piece h.1 in let e2 = again_again again in let e3 = word_again k h.2 in cc
reply_again (reply.Held j) h = let e0 = word_again j h in cc
reply_again (reply.Ordered j postage) h = let e0 = word_again j h.0 in let e1 = word_again postage h.1 in cc
reply_again (reply.SentDebit j k) h = let e0 = word_again j h.0 in let e1 = word_again k h.1 in cc
reply_again (reply.Printed j) h = let e0 = word_again j h in cc
reply_again (reply.PrinterFault j) h = let e0 = word_again j h in cc
reply_again (reply.Closed j) h = let e0 = word_again j h in cc
reply_again (reply.Trusted d) h = let e0 = device_again d h in cc
reply_again (reply.Accepted d piece scan again) h = let e0 = device_again d h.0 in let e1 = word_again piece h.1 in let e2 = word_again scan h.2 in let e3 = again_again again in cc
reply_again reply.End h = refl
reply_again reply.NoDay h = refl
reply_again (reply.NoMessage k) h = let e0 = word_again k h in cc
reply_again (reply.OffNode n) h = let e0 = node_again n (node_is n h) in cc
reply_again (reply.OnAlready n) h = let e0 = node_again n (node_is n h) in cc
reply_again (reply.Power n) h = let e0 = node_again n (node_is n h) in cc
reply_again (reply.Fault n) h = let e0 = node_again n (node_is n h) in cc
reply_again (reply.Worn n) h = let e0 = node_again n (node_is n h) in cc
reply_again (reply.Damaged n) h = let e0 = node_again n (node_is n h) in cc
reply_again (reply.Status d v) h =
    ap (λ (n : ℕ). reply.Status n (view_in (reply_words (reply.Status d v)))) (device_again d h.0) ∙ ap (λ (w : DevView). reply.Status d w) (view_again d v h)
reply_again (reply.Flagged c true) h = ap (λ (n : ℕ). reply.Flagged n true) (small_again c 64 (omega arith) h)
reply_again (reply.Flagged c false) h = ap (λ (n : ℕ). reply.Flagged n false) (small_again c 64 (omega arith) h)
reply_again (reply.Reconciled d own centre flight) h =
    let e0 = device_again d h.0 in let e1 = number_again own h.1 in let e2 = number_again centre h.2 in let e3 = flight_again flight h.3 in cc
reply_again (reply.DevRefused d r) h = let e0 = device_again d h.0 in let e1 = dev_again r h.1 in cc
reply_again (reply.CentreRefused r) h = ap reply.CentreRefused (centre_again r h)
reply_again (reply.HostRefused r) h = ap reply.HostRefused (host_again r h)
reply_again (reply.ScanRefused r) h = ap reply.ScanRefused (scan_again r h)

-- a text is that of one reply
pub one_reply_of : (r s : Reply) → IsWholeReply r → IsWholeReply s → text_of r ≡ text_of s → told r ≡ told s
one_reply_of r s h k e =
    let words : reply_words r ≡ reply_words s = sym (words_in_text_of r h) ∙ ap words_in e ∙ words_in_text_of s k in
    sym (reply_again r h) ∙ ap reply_in words ∙ reply_again s k
