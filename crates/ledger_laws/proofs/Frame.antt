-- A commit of one node leaves what another node's open commit rests on. What a commit rests on is its own node's state, and
-- look-ups at other nodes that stay once they found something: so nothing has to be known of the other commit.

use Rattle.std.proofs.Common.{◌≡◌, ℕ, ◌+◌, ◌-◌, ◌<◌, ◌≤◌, true, false, List, ◌∷◌, Option, refl, sym, ap, subst, ◌∙◌, true≢false}
use Rattle.std.specs.Prelude.{◌&&◌, max, nat_le}
use Rattle.bench_base.specs.declared.{words.Verdict.Verdict, ledger.Commit.Commit, ledger.Commit.TheVariants.Made, ledger.Commit.TheVariants.Asked, ledger.Commit.TheVariants.Applied, ledger.Commit.TheVariants.Debited, ledger.Commit.TheVariants.Registered, ledger.Commit.TheVariants.Opened, ledger.Commit.TheVariants.Deposited, ledger.Commit.TheVariants.Flagged, ledger.Commit.TheVariants.Ruled, ledger.Commit.TheVariants.Settled, ledger.Commit.TheVariants.Ordered, ledger.Commit.TheVariants.Held, ledger.Commit.TheVariants.Began, ledger.Commit.TheVariants.Closed, ledger.Commit.TheVariants.Trusted, ledger.Commit.TheVariants.Accepted, words.Node.TheVariants.Centre, words.Node.TheVariants.Host, words.Node.TheVariants.Verifier, words.JobState.JobState}
use Rattle.bench_base.specs.Rules.{Rules}
use Rattle.psd_wire.specs.declared.{message.Request.Request, message.ReplyMsg.ReplyMsg}
use Rattle.ledger_terms.specs.Requests.{request_in}
use Rattle.ledger_terms.specs.Centres.{ruled, done, registered, opened, receipt, deposits, customer_sum}
use Rattle.ledger_laws.proofs.Good.{Fits, is_full}
use Rattle.bench_base.specs.Nodes.{same_node, node_of}
use Rattle.bench_base.specs.Jobs.{last_job, job_of, state_of, open_job, top}
use Rattle.bench_base.specs.Scans.{trusted, accepted, blocks}
use Rattle.host_jobs.specs.Answers.{is_open}
use Rattle.psd_wire.specs.declared.message.Message.TheVariants as m
use Rattle.psd_wire.specs.Grammar.{IsWhole}
use Rattle.ledger_terms.specs.Rulings.{verdict, verdict_by, reply_to}
use Rattle.ledger_laws.proofs.Kept.{note_kept, ruling_kept, applied_kept}

-- == the centre's state, after a commit of another node ==

off : true ≡ false → ⊥
off e = true≢false e

ruled_frame : (d : ℕ) (c : Commit) (C : List Commit) → same_node (node_of c) Centre ≡ false → ruled d (c ∷ C) ≡ ruled d C
ruled_frame d (Ruled e n v r) C h = absurd (off h)
ruled_frame d _ C h = refl

done_frame : (d : ℕ) (c : Commit) (C : List Commit) → same_node (node_of c) Centre ≡ false → done d (c ∷ C) ≡ done d C
done_frame d (Settled e n) C h = absurd (off h)
done_frame d _ C h = refl

registered_frame : (d : ℕ) (c : Commit) (C : List Commit) → same_node (node_of c) Centre ≡ false → registered d (c ∷ C) ≡ registered d C
registered_frame d (Registered e o k) C h = absurd (off h)
registered_frame d _ C h = refl

opened_frame : (d : ℕ) (c : Commit) (C : List Commit) → same_node (node_of c) Centre ≡ false → opened d (c ∷ C) ≡ opened d C
opened_frame d (Opened e) C h = absurd (off h)
opened_frame d _ C h = refl

receipt_frame : (d : ℕ) (c : Commit) (C : List Commit) → same_node (node_of c) Centre ≡ false → receipt d (c ∷ C) ≡ receipt d C
receipt_frame d (Deposited e n a) C h = absurd (off h)
receipt_frame d _ C h = refl

deposits_frame : (d : ℕ) (c : Commit) (C : List Commit) → same_node (node_of c) Centre ≡ false → deposits d (c ∷ C) ≡ deposits d C
deposits_frame d (Deposited e n a) C h = absurd (off h)
deposits_frame d _ C h = refl

verdict_frame : (q : Request) (c : Commit) (C : List Commit) → same_node (node_of c) Centre ≡ false → verdict (c ∷ C) q ≡ verdict C q
unfolding verdict verdict_by customer_sum
verdict_frame q (Registered d o k) C h = absurd (off h)
verdict_frame q (Opened w) C h = absurd (off h)
verdict_frame q (Deposited w n a) C h = absurd (off h)
verdict_frame q (Flagged w s) C h = absurd (off h)
verdict_frame q (Ruled d n v r) C h = absurd (off h)
verdict_frame q (Settled d n) C h = absurd (off h)
verdict_frame q _ C h = refl

reply_frame : (q : Request) (c : Commit) (C : List Commit) → same_node (node_of c) Centre ≡ false → reply_to (c ∷ C) q ≡ reply_to C q
unfolding reply_to verdict verdict_by customer_sum
reply_frame q (Registered d o k) C h = absurd (off h)
reply_frame q (Opened w) C h = absurd (off h)
reply_frame q (Deposited w n a) C h = absurd (off h)
reply_frame q (Flagged w s) C h = absurd (off h)
reply_frame q (Ruled d n v r) C h = absurd (off h)
reply_frame q (Settled d n) C h = absurd (off h)
reply_frame q _ C h = refl

-- == the host's and the verifier's state, after a commit of another node ==

last_job_frame : (c : Commit) (C : List Commit) → same_node (node_of c) Host ≡ false → last_job (c ∷ C) ≡ last_job C
last_job_frame (Ordered j d p a k) C h = absurd (off h)
last_job_frame _ C h = refl

job_of_frame : (j : ℕ) (c : Commit) (C : List Commit) → same_node (node_of c) Host ≡ false → job_of j (c ∷ C) ≡ job_of j C
job_of_frame i (Ordered j d p a k) C h = absurd (off h)
job_of_frame i _ C h = refl

state_of_frame : (j : ℕ) (c : Commit) (C : List Commit) → same_node (node_of c) Host ≡ false → state_of j (c ∷ C) ≡ state_of j C
state_of_frame i (Ordered j d p a k) C h = absurd (off h)
state_of_frame i (Held j x) C h = absurd (off h)
state_of_frame i (Began j) C h = absurd (off h)
state_of_frame i (Closed j) C h = absurd (off h)
state_of_frame i _ C h = refl

open_job_frame : (d : ℕ) (c : Commit) (C : List Commit) → same_node (node_of c) Host ≡ false → open_job d (c ∷ C) ≡ open_job d C
open_job_frame i (Ordered j d p a k) C h = absurd (off h)
open_job_frame i (Held j x) C h = absurd (off h)
open_job_frame i (Closed j) C h = absurd (off h)
open_job_frame i _ C h = refl

top_frame : (d : ℕ) (c : Commit) (C : List Commit) → same_node (node_of c) Host ≡ false → top d (c ∷ C) ≡ top d C
top_frame i (Held j x) C h = absurd (off h)
top_frame i _ C h = refl

trusted_frame : (d : ℕ) (c : Commit) (C : List Commit) → same_node (node_of c) Verifier ≡ false → trusted d (c ∷ C) ≡ trusted d C
trusted_frame d (Trusted e k) C h = absurd (off h)
trusted_frame d _ C h = refl

accepted_frame : (d p : ℕ) (c : Commit) (C : List Commit) → same_node (node_of c) Verifier ≡ false → accepted d p (c ∷ C) ≡ accepted d p C
accepted_frame d p (Accepted e q s) C h = absurd (off h)
accepted_frame d p _ C h = refl

oldest_frame : (c : Commit) (C : List Commit) → same_node (node_of c) Host ≡ false → state_of (last_job (c ∷ C) - 1023) (c ∷ C) ≡ state_of (last_job C - 1023) C
oldest_frame c C h = ap (λ n. state_of (n - 1023) (c ∷ C)) (last_job_frame c C h) ∙ state_of_frame (last_job C - 1023) c C h

blocks_frame : (c : Commit) (C : List Commit) → same_node (node_of c) Verifier ≡ false → blocks (c ∷ C) ≡ blocks C
blocks_frame (Accepted e q s) C h = absurd (off h)
blocks_frame _ C h = refl

pub frame : (ρ : Rules) (o c : Commit) (C : List Commit) → same_node (node_of c) (node_of o) ≡ false → Fits ρ o C → Fits ρ o (c ∷ C)
frame ρ (Made d k) (Made e l) C h f = rw h f
frame ρ (Made d k) _ C h f = f
frame ρ (Asked d n r) (Made e k) C h f = rw h f
frame ρ (Asked d n r) (Asked e m s) C h f = rw h f
frame ρ (Asked d n r) (Applied e m v) C h f = rw h f
frame ρ (Asked d n r) (Debited e p a k t u) C h f = rw h f
frame ρ (Asked d n r) _ C h f = f
frame ρ (Applied d n v) (Asked e m s) C h f = rw h f
frame ρ (Applied d n v) (Applied e m w) C h f = rw h f
frame ρ (Applied d n v) (Ruled e m w r) C h f = record { note = f.note; waits = f.waits; ruled_as = ruling_kept d n (v, f.note) (Ruled e m w r) C f.ruled_as }
frame ρ (Applied d n v) _ C h f = f
frame ρ (Debited d p a k t u) (Made e l) C h f = rw h f
frame ρ (Debited d p a k t u) (Asked e m s) C h f = rw h f
frame ρ (Debited d p a k t u) (Applied e m w) C h f = rw h f
frame ρ (Debited d p a k t u) (Debited e q b l s w) C h f = rw h f
frame ρ (Debited d p a k t u) _ C h f = f
frame ρ (Registered d o k) c C h f = registered_frame d c C h ∙ f
frame ρ (Opened w) c C h f = opened_frame w c C h ∙ f
frame ρ (Flagged w s) c C h f = opened_frame w c C h ∙ f
frame ρ (Deposited w n a) c C h f = record {
  known = opened_frame w c C h ∙ f.known;
  next = f.next ∙ ap (λ (x : ℕ × ℕ). x.0 + 1) (sym (receipt_frame w c C h));
  low = f.low;
  high = f.high;
  room = subst (λ x. x + a ≤ 1000000000000000) (sym (deposits_frame w c C h)) f.room;
}
frame ρ (Ruled d n v r) c C h f = record {
  next = f.next ∙ ap (λ x. x + 1) (sym (ruled_frame d c C h));
  asked_as = note_kept d n r c C f.asked_as;
  known = (f.known.0, registered_frame d c C h ∙ f.known.1);
  verdict = f.verdict ∙ ap (λ (x : Verdict × ℕ). x.0) (sym (verdict_frame (request_in r) c C h));
  whole = subst (λ (x : ReplyMsg). IsWhole (m.Reply x)) (sym (reply_frame (request_in r) c C h)) f.whole;
}
frame ρ (Settled d n) c C h f = record {
  new = subst (λ (x : ℕ × ℕ). max (x.0 - 1) x.1 < n) (λ i. (sym (ruled_frame d c C h) i, sym (done_frame d c C h) i)) f.new;
  known = subst (λ x. n ≤ x) (sym (ruled_frame d c C h)) f.known;
  v = f.v;
  applied_as = applied_kept d n f.v c C f.applied_as;
}
frame ρ (Ordered j d p a k) c C h f = record {
  next = f.next ∙ ap (λ x. x + 1) (sym (last_job_frame c C h));
  idle = open_job_frame d c C h ∙ f.idle;
  fresh = subst (λ x. x < p) (sym (top_frame d c C h)) f.fresh;
  room = subst (λ (x : ℕ × Option JobState). (nat_le 1024 x.0 && is_open x.1) ≡ false) (λ i. (sym (last_job_frame c C h) i, sym (oldest_frame c C h) i)) f.room;
}
frame ρ (Held j x) c C h f = record { at = f.at; job_is = job_of_frame j c C h ∙ f.job_is; open_is = open_job_frame f.at.device c C h ∙ f.open_is; mark = f.mark }
frame ρ (Began j) c C h f = state_of_frame j c C h ∙ f
frame ρ (Closed j) c C h f = (f.0, state_of_frame j c C h ∙ f.1, f.2)
frame ρ (Trusted d k) c C h f = trusted_frame d c C h ∙ f
frame ρ (Accepted d p s) c C h f = record {
  new = accepted_frame d p c C h ∙ f.new;
  known = (f.known.0, trusted_frame d c C h ∙ f.known.1);
  room = ap (is_full d p) (blocks_frame c C h) ∙ f.room;
}
