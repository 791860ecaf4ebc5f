-- The turns of a run, one line after another.
use Rattle.std.proofs.Common.{◌≡◌, ◌≢◌, ℕ, ◌+◌, ◌≤◌, ◌<◌, List, [], ◌∷◌, ◌++◌, length, take, Option, Some, None, Bool, true, false, refl, sym, ap, ◌∙◌, arith, subst, append-nil, inl, inr, ◌⊎◌, flat_map}
use Rattle.std.specs.List.{AllByRecursion}
use Rattle.std.proofs.lemmas.Bool.{cases_lt}
use Rattle.std.proofs.lemmas.Grind.{flat_map-append}
use Rattle.std.proofs.lemmas.List.{length-append, length-take}
use Rattle.std.proofs.KnownBytes.{Consumes-trans, Consumes-nil, Appends-trans, Appends-nil}
use Rattle.std.specs.Io.KnownBytes.{Consumes, Appends, IsAtEnd}
use Rattle.line_runs.specs.declared.{lines.LineRead.LineRead, status.SideStatus.SideStatus, status.SideStatus.TheVariants.Run, status.SideStatus.TheVariants.Stopped}
use Rattle.line_runs.specs.declared.lines.LineRead.TheVariants as read
use Rattle.line_runs.specs.Lines.{IsOneLine, ended, IsLineIn, ReadsLine}
use Rattle.line_runs.specs.declared.status.Status.TheVariants as status
use Rattle.line_runs.specs.Trace.{Lines, Reads}
use Rattle.line_runs.specs.Runs.{IsBadPlace, DidLast, RanOut, EndsIn, Replayed}
use Rattle.line_runs.specs.Turns.{AreDone, DidLine, Refused, Wanted, LineEnd, Ended, Goes, Stops, Progress}

-- one more at the end
flat_push : {X : Type 0} (f : X → List ℕ) (xs : List X) (x : X) → flat_map f (xs ++ x ∷ []) ≡ flat_map f xs ++ f x
flat_push f xs x = flat_map-append f xs (x ∷ []) ∙ ap (λ t. flat_map f xs ++ t) (append-nil (f x))

each_append : {X : Type 0} (P : X → Type 0) (a b : List X) → AllByRecursion P a → AllByRecursion P b → AllByRecursion P (a ++ b)
each_append P [] b p q = q
each_append P (d ∷ a) b p q = (p.0, each_append P a b p.1 q)

-- ---- one line

-- a line that was read
pub record LineTaken (left0 left1 : Option (List ℕ)) (line : List ℕ) (is_ended : Bool) : Type 0 where
  pub bytes : List ℕ
  pub consumed : Consumes left0 left1 bytes
  pub is : IsLineIn is_ended line bytes (IsAtEnd left1)
  pub one : IsOneLine line
  pub short : length line ≤ 600

-- what was taken of the stream for a line that was read so
abbrev pub ReadAs : Option (List ℕ) → Option (List ℕ) → List ℕ → LineRead → Type 0
ReadAs left0 left1 buf r = (bytes : List ℕ) × Consumes left0 left1 bytes × ReadsLine r bytes buf (IsAtEnd left1)

short_line : (len : ℕ) (buf : List ℕ) → len ≤ 600 → length (take len buf) ≤ 600
short_line len buf h = omega (arith, h, length-take len buf)

pub line_taken : (left0 left1 : Option (List ℕ)) (buf : List ℕ) (len : ℕ) (is_ended flag : Bool) → ReadAs left0 left1 buf (read.Line len is_ended) → is_ended ≡ flag
    → LineTaken left0 left1 (take len buf) flag
line_taken left0 left1 buf len is_ended flag t same = record {
  bytes = t.0;
  consumed = t.1;
  is = subst (λ (b : Bool). IsLineIn b (take len buf) t.0 (IsAtEnd left1)) same t.2.2;
  one = t.2.1;
  short = short_line len buf t.2.0;
}

not_memory : (outcome : SideStatus) (number : ℕ) → number ≤ 1000000 → (number < 1000000 → outcome ≡ Run (status.Script (number + 1))) → (number ≡ 1000000 → outcome ≡ Run status.TooLong)
    → outcome ≢ Run status.Memory
not_memory outcome number few missing long is = elim (cases_lt number 1000000) [
  | inl lt ↦ let other : Run status.Memory ≡ Run (status.Script (number + 1)) = sym is ∙ missing lt in cc
  | inr le ↦ let other : Run status.Memory ≡ Run status.TooLong = sym is ∙ long (omega (arith, few, le)) in cc
]

module _ {D : Type 0} (l : Lines D) where
  reads_of : (left0 left1 : Option (List ℕ)) (line : List ℕ) (is_ended : Bool) (d : D) → LineTaken left0 left1 line is_ended → l.line_in d ≡ line → l.IsOf d → Reads l d
  reads_of left0 left1 line is_ended d t same is =
      record { one = subst IsOneLine (sym same) t.one; short = subst (λ x. length x ≤ 600) (sym same) t.short; is = is }

  line_of_step : (left0 left1 : Option (List ℕ)) (line : List ℕ) (is_ended : Bool) (d : D) (t : LineTaken left0 left1 line is_ended) → l.line_in d ≡ line
      → IsLineIn is_ended (l.line_in d) t.bytes (IsAtEnd left1)
  line_of_step left0 left1 line is_ended d t same = subst (λ x. IsLineIn is_ended x t.bytes (IsAtEnd left1)) (sym same) t.is

  abbrev did_last : (left0 left1 : Option (List ℕ)) (line : List ℕ) (is_ended : Bool) (d : D) (t : LineTaken left0 left1 line is_ended) → l.line_in d ≡ line → l.IsOf d
      → DidLast l t.bytes (IsAtEnd left1) (d ∷ [])
  did_last left0 left1 line is_ended d t same is = record {
    last = d;
    is_ended = is_ended;
    only = refl;
    reads = reads_of left0 left1 line is_ended d t same is;
    line = line_of_step left0 left1 line is_ended d t same;
  }

  ran_out_as : (outcome : SideStatus) (number : ℕ) → number ≤ 1000000 → (number < 1000000 → outcome ≡ Run (status.Script (number + 1))) → (number ≡ 1000000 → outcome ≡ Run status.TooLong)
      → (bytes : List ℕ) (end : Type 0) (text : List ℕ) (done : List D) → RanOut l bytes end text done → EndsIn l outcome number bytes end text done
  ran_out_as outcome number few missing long bytes end text done out =
      elim (cases_lt number 1000000) [
        | inl lt ↦
            let at : EndsIn l (Run (status.Script (number + 1))) number bytes end text done = (omega (arith, lt), inr (refl, out)) in
            subst (λ (s : SideStatus). EndsIn l s number bytes end text done) (sym (missing lt)) at
        | inr le ↦
            let is : number ≡ 1000000 = omega (arith, few, le) in
            let at : EndsIn l (Run status.TooLong) number bytes end text done = inr (is, out) in
            subst (λ (s : SideStatus). EndsIn l s number bytes end text done) (sym (long is)) at
      ]

  -- the same steps, with more said of them
  pub said : (P Q : List D → Type 0) (outcome : SideStatus) (a b t u : Option (List ℕ)) → ((trace : List D) → P trace → Q trace) → Replayed l outcome P a b t u → Replayed l outcome Q a b t u
  said P Q outcome a b t u more r = record {
    trace = r.trace;
    each = r.each;
    go_on = r.go_on;
    rest = r.rest;
    done = r.done;
    text = r.text;
    few = r.few;
    ends = r.ends;
    consumed = r.consumed;
    appended = r.appended;
    did = more (r.trace ++ r.done) r.did;
  }

  module _ {B : Type 0} (Does : B → B → List D → Type 0) (Leaves : SideStatus → B → B → Type 0) (chain : AreDone Does Leaves) where
    -- nothing but the steps was done
    ended_so : (s : SideStatus) (old new : B) (trace : List D) → s ≢ Run status.Memory → Does old new trace → Ended Does Leaves s old new trace
    ended_so s old new trace other did = record { behind = new; did = did; leaves = chain.rests s new other }

    -- the run goes on after a line end
    pub line_goes : (number : ℕ) (old new : B) (left0 left1 taken0 taken1 : Option (List ℕ)) (line : List ℕ)
        → LineTaken left0 left1 line true → LineEnd l Does Leaves number line None old new taken0 taken1 → Goes l Does old new left0 left1 taken0 taken1
    line_goes number old new left0 left1 taken0 taken1 line t (LineEnd.refused r) = cc (r.outcome_is)
    line_goes number old new left0 left1 taken0 taken1 line t (LineEnd.wanted r) = cc (r.outcome_is)
    line_goes number old new left0 left1 taken0 taken1 line t (LineEnd.did d) = record {
      trace_step = d.trace_step;
      reads = reads_of left0 left1 line true d.trace_step t d.line_is d.is;
      goes_on = d.reported.0;
      consumed = subst (Consumes left0 left1) (line_of_step left0 left1 line true d.trace_step t d.line_is) t.consumed;
      appended = d.reported.1;
      did = d.did;
    }

    -- the run ends with what was done in the line
    done_stops : (outcome : SideStatus) (number : ℕ) → number ≤ 1000000 → (old new : B) (left0 left1 taken0 taken1 : Option (List ℕ)) (line : List ℕ) (is_ended : Bool)
        → LineTaken left0 left1 line is_ended → DidLine l Does line (Some outcome) old new taken0 taken1 → Stops l Does Leaves outcome number old new left0 left1 taken0 taken1
    done_stops (Run status.Words) number few old new left0 left1 taken0 taken1 line is_ended t d = absurd d.reported
    done_stops (Run (status.Script n)) number few old new left0 left1 taken0 taken1 line is_ended t d = absurd d.reported
    done_stops (Run status.ReadFault) number few old new left0 left1 taken0 taken1 line is_ended t d = absurd d.reported
    done_stops (Run status.TooLong) number few old new left0 left1 taken0 taken1 line is_ended t d = absurd d.reported
    done_stops (Run status.Memory) number few old new left0 left1 taken0 taken1 line is_ended t d = absurd d.reported
    done_stops (Run status.Done) number few old new left0 left1 taken0 taken1 line is_ended t d = record {
      bytes = t.bytes;
      done = d.trace_step ∷ [];
      text = l.text_for d.trace_step;
      few = λ _. few;
      ends = (did_last left0 left1 line is_ended d.trace_step t d.line_is d.is, d.reported.0, refl);
      consumed = t.consumed;
      appended = d.reported.1;
      did = ended_so (Run status.Done) old new (d.trace_step ∷ []) (λ e. cc) d.did;
    }
    done_stops (Run status.WriteFault) number few old new left0 left1 taken0 taken1 line is_ended t d = record {
      bytes = t.bytes;
      done = d.trace_step ∷ [];
      text = d.reported.0;
      few = λ _. few;
      ends = (did_last left0 left1 line is_ended d.trace_step t d.line_is d.is, d.reported.2);
      consumed = t.consumed;
      appended = d.reported.1;
      did = ended_so (Run status.WriteFault) old new (d.trace_step ∷ []) (λ e. cc) d.did;
    }
    done_stops Stopped number few old new left0 left1 taken0 taken1 line is_ended t d = record {
      bytes = t.bytes;
      done = d.trace_step ∷ [];
      text = [];
      few = λ _. few;
      ends = (did_last left0 left1 line is_ended d.trace_step t d.line_is d.is, d.reported.0, refl);
      consumed = t.consumed;
      appended = subst (λ (x : Option (List ℕ)). Appends taken0 x []) (sym d.reported.1) (Appends-nil taken0);
      did = ended_so Stopped old new (d.trace_step ∷ []) (λ e. cc) d.did;
    }

    -- the run ends since the bytes in the line's place are bad
    pub stops_bad : (number : ℕ) → number ≤ 1000000 → (b : B) (left0 left1 taken : Option (List ℕ)) (bytes : List ℕ) → Consumes left0 left1 bytes → IsBadPlace l bytes (IsAtEnd left1)
        → Stops l Does Leaves (Run (status.Script number)) number b b left0 left1 taken taken
    stops_bad number few b left0 left1 taken bytes consumed bad = record {
      bytes = bytes;
      done = [];
      text = [];
      few = λ _. few;
      ends = (few, inl (refl, refl, refl, bad));
      consumed = consumed;
      appended = Appends-nil taken;
      did = ended_so (Run (status.Script number)) b b [] (λ e. cc) (chain.nothing b);
    }

    -- the run ends since the source failed
    pub stops_failed : (how : LineRead) (number : ℕ) → number ≤ 1000000 → (b : B) (left0 left1 taken : Option (List ℕ)) (buf : List ℕ) → ReadAs left0 left1 buf how
        → how ≡ read.Fault → Stops l Does Leaves (Run status.ReadFault) number b b left0 left1 taken taken
    stops_failed how number few b left0 left1 taken buf took is =
        let reads : ReadsLine read.Fault took.0 buf (IsAtEnd left1) = subst (λ (x : LineRead). ReadsLine x took.0 buf (IsAtEnd left1)) is took.2 in
        record {
          bytes = took.0;
          done = [];
          text = [];
          few = λ _. few;
          ends = (refl, refl, reads.0, reads.1);
          consumed = took.1;
          appended = Appends-nil taken;
          did = ended_so (Run status.ReadFault) b b [] (λ e. cc) (chain.nothing b);
        }

    refused_stops : (outcome : SideStatus) (number : ℕ) → number ≤ 1000000 → (old new : B) (left0 left1 taken0 taken1 : Option (List ℕ)) (line : List ℕ) (is_ended : Bool)
        → LineTaken left0 left1 line is_ended → Refused l number line (Some outcome) old new taken0 taken1 → Stops l Does Leaves outcome number old new left0 left1 taken0 taken1
    refused_stops outcome number few old new left0 left1 taken0 taken1 line is_ended t r =
        let is : outcome ≡ Run (status.Script number) = cc (r.outcome_is) in
        subst (λ s. Stops l Does Leaves s number old new left0 left1 taken0 taken1) (sym is)
        (subst (λ b. Stops l Does Leaves (Run (status.Script number)) number old b left0 left1 taken0 taken1) (sym r.world)
        (subst (λ x. Stops l Does Leaves (Run (status.Script number)) number old old left0 left1 taken0 x) (sym r.report)
        (stops_bad number few old left0 left1 taken0 t.bytes t.consumed
        (inl (record { line = line; is_ended = is_ended; one = t.one; short = t.short; is = t.is; that = r.bad })))))

    -- the run ends for lack of memory
    wanted_stops : (outcome : SideStatus) (number : ℕ) → number ≤ 1000000 → (old new : B) (left0 left1 taken0 taken1 : Option (List ℕ)) (line : List ℕ) (is_ended : Bool)
        → LineTaken left0 left1 line is_ended → Wanted l Leaves line (Some outcome) old new taken0 taken1 → Stops l Does Leaves outcome number old new left0 left1 taken0 taken1
    wanted_stops outcome number few old new left0 left1 taken0 taken1 line is_ended t w =
        let is : outcome ≡ Run status.Memory = cc (w.outcome_is) in
        subst (λ s. Stops l Does Leaves s number old new left0 left1 taken0 taken1) (sym is)
        (record {
          bytes = t.bytes;
          done = [];
          text = [];
          few = λ _. few;
          ends = (refl, refl, record { line = line; is_ended = is_ended; one = t.one; short = t.short; is = t.is; that = w.wants });
          consumed = t.consumed;
          appended = subst (λ (x : Option (List ℕ)). Appends taken0 x []) (sym w.report) (Appends-nil taken0);
          did = record { behind = old; did = chain.nothing old; leaves = w.leaves };
        })

    -- the run ends in the line
    pub line_stops : (outcome : SideStatus) (number : ℕ) → number ≤ 1000000 → (old new : B) (left0 left1 taken0 taken1 : Option (List ℕ)) (line : List ℕ) (is_ended : Bool)
        → LineTaken left0 left1 line is_ended → LineEnd l Does Leaves number line (Some outcome) old new taken0 taken1
        → Stops l Does Leaves outcome number old new left0 left1 taken0 taken1
    line_stops outcome number few old new left0 left1 taken0 taken1 line is_ended t (LineEnd.did d) = done_stops outcome number few old new left0 left1 taken0 taken1 line is_ended t d
    line_stops outcome number few old new left0 left1 taken0 taken1 line is_ended t (LineEnd.wanted w) = wanted_stops outcome number few old new left0 left1 taken0 taken1 line is_ended t w
    line_stops outcome number few old new left0 left1 taken0 taken1 line is_ended t (LineEnd.refused r) = refused_stops outcome number few old new left0 left1 taken0 taken1 line is_ended t r

    -- the run ends since the script has ended after the line
    pub line_runs_out : (outcome : SideStatus) (number : ℕ) → number ≤ 1000000 → (number < 1000000 → outcome ≡ Run (status.Script (number + 1))) → (number ≡ 1000000 → outcome ≡ Run status.TooLong)
        → (old new : B) (left0 left1 taken0 taken1 : Option (List ℕ)) (line : List ℕ)
        → LineTaken left0 left1 line false → LineEnd l Does Leaves number line None old new taken0 taken1 → Stops l Does Leaves outcome number old new left0 left1 taken0 taken1
    line_runs_out outcome number few missing long old new left0 left1 taken0 taken1 line t (LineEnd.refused r) = cc (r.outcome_is)
    line_runs_out outcome number few missing long old new left0 left1 taken0 taken1 line t (LineEnd.wanted r) = cc (r.outcome_is)
    line_runs_out outcome number few missing long old new left0 left1 taken0 taken1 line t (LineEnd.did d) = record {
      bytes = t.bytes;
      done = d.trace_step ∷ [];
      text = l.text_for d.trace_step;
      few = λ _. few;
      ends = ran_out_as outcome number few missing long t.bytes (IsAtEnd left1) (l.text_for d.trace_step) (d.trace_step ∷ [])
          (record {
            last = d.trace_step;
            only = refl;
            reads = reads_of left0 left1 line false d.trace_step t d.line_is d.is;
            line = line_of_step left0 left1 line false d.trace_step t d.line_is;
            goes_on = d.reported.0;
            told = refl;
          });
      consumed = t.consumed;
      appended = d.reported.1;
      did = ended_so outcome old new (d.trace_step ∷ []) (not_memory outcome number few missing long) d.did;
    }

    -- the line is too long, or missing
    pub stops_unread : (r : LineRead) (number : ℕ) → number ≤ 1000000 → (b : B) (left0 left1 taken : Option (List ℕ)) (buf : List ℕ) → ReadAs left0 left1 buf r
        → (r ≡ read.End) ⊎ (r ≡ read.Long) → Stops l Does Leaves (Run (status.Script number)) number b b left0 left1 taken taken
    stops_unread r number few b left0 left1 taken buf t is =
        elim is [
          | inl e ↦
              let at : ReadsLine read.End t.0 buf (IsAtEnd left1) = subst (λ (x : LineRead). ReadsLine x t.0 buf (IsAtEnd left1)) e t.2 in
              stops_bad number few b left0 left1 taken t.0 t.1 (inr (inr at))
          | inr e ↦
              let at : ReadsLine read.Long t.0 buf (IsAtEnd left1) = subst (λ (x : LineRead). ReadsLine x t.0 buf (IsAtEnd left1)) e t.2 in
              stops_bad number few b left0 left1 taken t.0 t.1 (inr (inl (at.0, at.1)))
        ]

    -- ---- one line after another

    pub progress_more : (count : ℕ) (old mid new : B) (a b c t u v : Option (List ℕ)) → Progress l Does count old mid a b t u → Goes l Does mid new b c u v → Progress l Does (count + 1) old new a c t v
    progress_more count old mid new a b c t u v p n = record {
      trace = p.trace ++ n.trace_step ∷ [];
      each = each_append (Reads l) p.trace (n.trace_step ∷ []) p.each (n.reads, tt);
      go_on = each_append l.GoesOn p.trace (n.trace_step ∷ []) p.go_on (n.goes_on, tt);
      number = length-append p.trace (n.trace_step ∷ []) ∙ ap (λ x. x + 1) p.number;
      consumed = subst (Consumes a c) (sym (flat_push (λ d. ended (l.line_in d)) p.trace n.trace_step)) (Consumes-trans a b c _ _ p.consumed n.consumed);
      appended = subst (Appends t v) (sym (flat_push l.text_for p.trace n.trace_step)) (Appends-trans t u v _ _ p.appended n.appended);
      did = chain.both old mid new p.trace (n.trace_step ∷ []) p.did n.did;
    }

    pub replayed : (outcome : SideStatus) (count : ℕ) (old mid new : B) (a b c t u v : Option (List ℕ)) → Progress l Does count old mid a b t u → Stops l Does Leaves outcome (count + 1) mid new b c u v
        → Replayed l outcome (Ended Does Leaves outcome old new) a c t v
    replayed outcome count old mid new a b c t u v p s = record {
      trace = p.trace;
      each = p.each;
      go_on = p.go_on;
      rest = s.bytes;
      done = s.done;
      text = s.text;
      few = λ h. subst (λ (n : ℕ). n + 1 ≤ 1000000) (sym p.number) (s.few h);
      ends = subst (λ (n : ℕ). EndsIn l outcome (n + 1) s.bytes (IsAtEnd c) s.text s.done) (sym p.number) s.ends;
      consumed = Consumes-trans a b c _ _ p.consumed s.consumed;
      appended = Appends-trans t u v _ _ p.appended s.appended;
      did = record { behind = s.did.behind; did = chain.both old mid s.did.behind p.trace s.done p.did s.did.did; leaves = s.did.leaves };
    }

    pub too_long : (count : ℕ) → count ≡ 1000000 → (old new : B) (a b t u : Option (List ℕ)) → Progress l Does count old new a b t u
        → Replayed l (Run status.TooLong) (Ended Does Leaves (Run status.TooLong) old new) a b t u
    too_long count all old new a b t u p = replayed (Run status.TooLong) count old new new a b b t u u p (record {
      bytes = [];
      done = [];
      text = [];
      few = λ h. absurd (h refl);
      ends = inl (omega (arith, all), refl, refl, refl);
      consumed = Consumes-nil b;
      appended = Appends-nil u;
      did = ended_so (Run status.TooLong) new new [] (λ e. cc) (chain.nothing new);
    })
