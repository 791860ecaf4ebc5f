-- Words that fit the form after a keyword are those of an event; words that fit the first places of no form begin none.
use Rattle.std.proofs.Common.{◌≡◌, ℕ, true, false, ◌⊎◌, List, [], ◌∷◌, refl, inl, inr, codes, ◌++◌, decimal}
use Rattle.bench_base.specs.declared.{words.Kind.TheVariants.Enrol, words.Kind.TheVariants.Reset, words.Kind.TheVariants.Audit, words.Kind.TheVariants.Refund, words.Kind.TheVariants.Withdraw, events.Event.Event, words.Kind.Kind}
use Rattle.bench_base.specs.Ranges.{IsAsk, IsDevice}
use Rattle.bench_base.specs.Events.{IsWholeEvent}
use Rattle.bench_base.specs.declared.events.Event.TheVariants as ev
use Rattle.script_text.specs.Grammar.{AreWordsOf, ask_words}
use Rattle.script_text.specs.Keywords.{keyword_word}
use Rattle.script_text.specs.declared.keyword.Keyword.{Keyword}
use Rattle.script_text.specs.Reading.{AreNoWords}
use Rattle.script_text.specs.declared.keyword.Keyword.TheVariants as kw
use Rattle.script_text.proofs.EachEvent.{no_event}
use Rattle.script_words.specs.Words.{device_word}
use Rattle.script_check.specs.Forms.{first_form, second_form, AreInPlace}
use Rattle.script_check.proofs.InPlace.{Fits, prefix_of}

-- == words that fit a form ==

-- some event has these words
abbrev pub AreAnEvents : List (List ℕ) → Type 0
AreAnEvents ws = (e : Event) × IsWholeEvent e × AreWordsOf e ws

-- == the words of a form, one after the other ==

none : (k : List ℕ) (ws : List (List ℕ)) → ws ≡ [] → k ∷ ws ≡ k ∷ []
none k ws e = cc

one : (k : List ℕ) (ws r : List (List ℕ)) (v a : List ℕ) → ws ≡ v ∷ r → v ≡ a → r ≡ [] → k ∷ ws ≡ k ∷ a ∷ []
one k ws r v a is e end = cc

two : (k : List ℕ) (ws r s : List (List ℕ)) (v w a b : List ℕ) → ws ≡ v ∷ r → v ≡ a → r ≡ w ∷ s → w ≡ b → s ≡ [] → k ∷ ws ≡ k ∷ a ∷ b ∷ []
two k ws r s v w a b is e js f end = cc

three : (k : List ℕ) (ws r s t : List (List ℕ)) (v w x a b c : List ℕ) → ws ≡ v ∷ r → v ≡ a → r ≡ w ∷ s → w ≡ b → s ≡ x ∷ t → x ≡ c → t ≡ []
    → k ∷ ws ≡ k ∷ a ∷ b ∷ c ∷ []
three k ws r s t v w x a b c is e js f ks g end = cc

four : (k : List ℕ) (ws r s t u : List (List ℕ)) (v w x y a b c d : List ℕ) → ws ≡ v ∷ r → v ≡ a → r ≡ w ∷ s → w ≡ b → s ≡ x ∷ t → x ≡ c → t ≡ y ∷ u
    → y ≡ d → u ≡ [] → k ∷ ws ≡ k ∷ a ∷ b ∷ c ∷ d ∷ []
four k ws r s t u v w x y a b c d is e js f ks g ls h end = cc

five : (k : List ℕ) (ws r s t u q : List (List ℕ)) (v w x y z a b c d f : List ℕ) → ws ≡ v ∷ r → v ≡ a → r ≡ w ∷ s → w ≡ b → s ≡ x ∷ t → x ≡ c → t ≡ y ∷ u
    → y ≡ d → u ≡ z ∷ q → z ≡ f → q ≡ [] → k ∷ ws ≡ k ∷ a ∷ b ∷ c ∷ d ∷ f ∷ []
five k ws r s t u q v w x y z a b c d f is e js i ks g ls h ms j end = cc

-- == the events ==

asked_with : (ws : List (List ℕ)) → Fits (first_form kw.Ask) ws → AreAnEvents (codes "ask" ∷ ws)
asked_with ws h = by_kind h.4.3
  where
    by_kind : (h.4.0 ≡ codes "enrol") ⊎ (h.4.0 ≡ codes "reset") → AreAnEvents (codes "ask" ∷ ws)
    by_kind (inl is) = (ev.Ask h.3.0 Enrol h.4.4.3.0 0, (h.3.1, (h.4.4.3.1, refl)), three _ _ _ _ _ _ _ _ _ _ _ h.2 h.3.2 h.4.2 is h.4.4.2 h.4.4.3.2 h.4.4.4)
    by_kind (inr is) = (ev.Ask h.3.0 Reset 0 h.4.4.3.0, (h.3.1, (refl, h.4.4.3.1)), three _ _ _ _ _ _ _ _ _ _ _ h.2 h.3.2 h.4.2 is h.4.4.2 h.4.4.3.2 h.4.4.4)

asked_plain : (ws : List (List ℕ)) → Fits (second_form kw.Ask) ws → AreAnEvents (codes "ask" ∷ ws)
asked_plain ws h = by_kind h.4.3
  where
    by_kind : (h.4.0 ≡ codes "audit") ⊎ (h.4.0 ≡ codes "refund") ⊎ (h.4.0 ≡ codes "withdraw") → AreAnEvents (codes "ask" ∷ ws)
    by_kind (inl is) = (ev.Ask h.3.0 Audit 0 0, (h.3.1, (refl, refl)), two _ _ _ _ _ _ _ _ h.2 h.3.2 h.4.2 is h.4.4)
    by_kind (inr (inl is)) = (ev.Ask h.3.0 Refund 0 0, (h.3.1, (refl, refl)), two _ _ _ _ _ _ _ _ h.2 h.3.2 h.4.2 is h.4.4)
    by_kind (inr (inr is)) = (ev.Ask h.3.0 Withdraw 0 0, (h.3.1, (refl, refl)), two _ _ _ _ _ _ _ _ h.2 h.3.2 h.4.2 is h.4.4)

pub made_first : (k : Keyword) (ws : List (List ℕ)) → Fits (first_form k) ws → AreAnEvents (keyword_word k ∷ ws)
made_first kw.Day ws h = (ev.Day h.3.0, h.3.1, (h.0, h.3.2, one _ _ _ _ _ h.2 refl h.4))
made_first kw.Rates ws h = (ev.Rates, tt, none _ _ h)
made_first kw.Make ws h = (ev.Make h.3.0 h.4.3.0, (h.3.1, h.4.3.1), two _ _ _ _ _ _ _ _ h.2 h.3.2 h.4.2 h.4.3.2 h.4.4)
made_first kw.On ws h = (ev.On h.3.0, h.3.1, one _ _ _ _ _ h.2 h.3.2 h.4)
made_first kw.Off ws h = (ev.Off h.3.0, h.3.1, one _ _ _ _ _ h.2 h.3.2 h.4)
made_first kw.Cut ws h = (
  ev.Cut h.3.0 h.4.3.0 h.4.4.3.0 h.4.4.4.3.0,
  (h.3.1, h.4.3.1, h.4.4.3.1, h.4.4.4.3.1),
  four _ _ _ _ _ _ _ _ _ _ _ _ _ _ h.2 h.3.2 h.4.2 h.4.3.2 h.4.4.2 h.4.4.3.2 h.4.4.4.2 h.4.4.4.3.2 h.4.4.4.4,
)
made_first kw.Debit ws h = (
  ev.Debit h.3.0 h.4.3.0 h.4.4.3.0 h.4.4.4.3.0,
  (h.3.1, h.4.3.1, h.4.4.3.1, h.4.4.4.3.1),
  four _ _ _ _ _ _ _ _ _ _ _ _ _ _ h.2 h.3.2 h.4.2 h.4.3.2 h.4.4.2 h.4.4.3.2 h.4.4.4.2 h.4.4.4.3.2 h.4.4.4.4,
)
made_first kw.Ask ws h = asked_with ws h
made_first kw.Resend ws h = (ev.Resend h.3.0, h.3.1, one _ _ _ _ _ h.2 h.3.2 h.4)
made_first kw.Ack ws h = (ev.Ack h.3.0, h.3.1, one _ _ _ _ _ h.2 h.3.2 h.4)
made_first kw.Status ws h = (ev.Status h.3.0, h.3.1, one _ _ _ _ _ h.2 h.3.2 h.4)
made_first kw.Register ws h = (
  ev.Register h.3.0 h.4.3.0 h.4.4.3.0,
  (h.3.1, h.4.3.1, h.4.4.3.1),
  three _ _ _ _ _ _ _ _ _ _ _ h.2 h.3.2 h.4.2 h.4.3.2 h.4.4.2 h.4.4.3.2 h.4.4.4,
)
made_first kw.Customer ws h = (ev.OpenCustomer h.3.0, h.3.1, one _ _ _ _ _ h.2 h.3.2 h.4)
made_first kw.Deposit ws h = (
  ev.Deposit h.3.0 h.4.3.0 h.4.4.3.0,
  (h.3.1, h.4.3.1, h.4.4.3.1),
  three _ _ _ _ _ _ _ _ _ _ _ h.2 h.3.2 h.4.2 h.4.3.2 h.4.4.2 h.4.4.3.2 h.4.4.4,
)
made_first kw.Suspend ws h = (ev.Flag h.3.0 true, h.3.1, one _ _ _ _ _ h.2 h.3.2 h.4)
made_first kw.Resume ws h = (ev.Flag h.3.0 false, h.3.1, one _ _ _ _ _ h.2 h.3.2 h.4)
made_first kw.Balance ws h = (ev.Balance h.3.0, h.3.1, one _ _ _ _ _ h.2 h.3.2 h.4)
made_first kw.Deliver ws h = (ev.Deliver h.3.0, h.3.1, one _ _ _ _ _ h.2 h.3.2 h.4)
made_first kw.Give ws h = (ev.Give h.3.0 h.4.3.0, (h.3.1, h.4.3.1), two _ _ _ _ _ _ _ _ h.2 h.3.2 h.4.2 h.4.3.2 h.4.4)
made_first kw.Order ws h = (
  ev.Order h.3.0 h.4.3.0 h.4.4.3.0 h.4.4.4.3.0 h.4.4.4.4.3.0,
  (h.3.1, h.4.3.1, h.4.4.3.1, h.4.4.4.3.1, h.4.4.4.4.3.1),
  five _ _ _ _ _ _ _ _ _ _ _ _ _ _ _ _ _ h.2 h.3.2 h.4.2 h.4.3.2 h.4.4.2 h.4.4.3.2 h.4.4.4.2 h.4.4.4.3.2 h.4.4.4.4.2 h.4.4.4.4.3.2 h.4.4.4.4.4,
)
made_first kw.Send ws h = (ev.Send h.3.0, h.3.1, one _ _ _ _ _ h.2 h.3.2 h.4)
made_first kw.Print ws h = (ev.Print h.3.0, h.3.1, one _ _ _ _ _ h.2 h.3.2 h.4)
made_first kw.Close ws h = (ev.Close h.3.0, h.3.1, one _ _ _ _ _ h.2 h.3.2 h.4)
made_first kw.Trust ws h = (ev.Trust h.3.0 h.4.3.0, (h.3.1, h.4.3.1), two _ _ _ _ _ _ _ _ h.2 h.3.2 h.4.2 h.4.3.2 h.4.4)
made_first kw.Scan ws h = (
  ev.ScanMsg h.3.0 h.4.4.3.0,
  (h.3.1, h.3.2, h.4.4.3.1),
  three _ _ _ _ _ _ _ _ _ _ _ h.2 h.3.3 h.4.2 h.4.3 h.4.4.2 h.4.4.3.2 h.4.4.4,
)
made_first kw.Reconcile ws h = (ev.Reconcile h.3.0, h.3.1, one _ _ _ _ _ h.2 h.3.2 h.4)
made_first kw.End ws h = (ev.End, tt, none _ _ h)

pub made_second : (k : Keyword) (ws : List (List ℕ)) → Fits (second_form k) ws → AreAnEvents (keyword_word k ∷ ws)
made_second kw.Ask ws h = asked_plain ws h
made_second kw.Scan ws h = (
  ev.ScanHex h.3.0 h.4.4.3.0,
  (h.3.1, h.3.2, h.4.4.3.1),
  three _ _ _ _ _ _ _ _ _ _ _ h.2 h.3.3 h.4.2 h.4.3 h.4.4.2 h.4.4.3.2 h.4.4.4,
)
made_second k ws h = made_first k ws h

-- == words that fit the first places of no form ==

behind : (v w : List ℕ) (vs ws : List (List ℕ)) → v ∷ vs ≡ w ∷ ws → vs ≡ ws
behind v w vs ws e = cc

module _ (prefix rest : List (List ℕ)) where
  -- they do not fit the first places after this keyword, in one form or the other
  abbrev NotFirst : Keyword → Type 0
  NotFirst k = AreInPlace (first_form k) prefix → ⊥

  abbrev NotSecond : Keyword → Type 0
  NotSecond k = AreInPlace (second_form k) prefix → ⊥

  abbrev ws : List (List ℕ)
  ws = prefix ++ rest

  first : (k : Keyword) → NotFirst k → Fits (first_form k) ws → ⊥
  first k not h = not (prefix_of (first_form k) prefix rest h)

  second : (k : Keyword) → NotSecond k → Fits (second_form k) ws → ⊥
  second k not h = not (prefix_of (second_form k) prefix rest h)

  no_ask : NotFirst kw.Ask → NotSecond kw.Ask → AreNoWords (codes "ask" ∷ ws)
  no_ask not not_plain = no_event kw.Ask ws (λ d kind c a whole are. by_kind d kind c a whole.0 whole.1 (behind _ _ _ _ are))
    where
      by_kind : (d : ℕ) (kind : Kind) (c a : ℕ) → IsDevice d → IsAsk kind c a → ws ≡ device_word d ∷ ask_words kind c a → ⊥
      by_kind d Enrol c a fits part e = first kw.Ask not (device_word d, _, e, (d, fits, refl), (codes "enrol", _, refl, inl refl, (decimal c, [], refl, (c, part.0, refl), refl)))
      by_kind d Reset c a fits part e = first kw.Ask not (device_word d, _, e, (d, fits, refl), (codes "reset", _, refl, inr refl, (decimal a, [], refl, (a, part.1, refl), refl)))
      by_kind d Audit c a fits part e = second kw.Ask not_plain (device_word d, _, e, (d, fits, refl), (codes "audit", [], refl, inl refl, refl))
      by_kind d Refund c a fits part e = second kw.Ask not_plain (device_word d, _, e, (d, fits, refl), (codes "refund", [], refl, inr (inl refl), refl))
      by_kind d Withdraw c a fits part e = second kw.Ask not_plain (device_word d, _, e, (d, fits, refl), (codes "withdraw", [], refl, inr (inr refl), refl))

  pub none_begins : (k : Keyword) → NotFirst k → NotSecond k → AreNoWords (keyword_word k ∷ ws)
  none_begins kw.Day n m = no_event kw.Day ws (λ t whole are. first kw.Day n (are.0, [], behind _ _ _ _ are.2, (t, whole, are.1), refl))
  none_begins kw.Rates n m = no_event kw.Rates ws (λ whole are. first kw.Rates n (behind _ _ _ _ are))
  none_begins kw.Make n m = no_event kw.Make ws (λ d key whole are. first kw.Make n (_, _, behind _ _ _ _ are, (d, whole.0, refl), (_, [], refl, (key, whole.1, refl), refl)))
  none_begins kw.On n m = no_event kw.On ws (λ node whole are. first kw.On n (_, [], behind _ _ _ _ are, (node, whole, refl), refl))
  none_begins kw.Off n m = no_event kw.Off ws (λ node whole are. first kw.Off n (_, [], behind _ _ _ _ are, (node, whole, refl), refl))
  none_begins kw.Cut n m = no_event kw.Cut ws (λ node calls keep byte whole are.
      first kw.Cut n (_, _, behind _ _ _ _ are, (node, whole.0, refl), (_, _, refl, (calls, whole.1, refl), (_, _, refl, (keep, whole.2, refl), (_, [], refl, (byte, whole.3, refl), refl)))))
  none_begins kw.Debit n m = no_event kw.Debit ws (λ d piece postage class whole are.
      first kw.Debit n (_, _, behind _ _ _ _ are, (d, whole.0, refl), (_, _, refl, (piece, whole.1, refl), (_, _, refl, (postage, whole.2, refl), (_, [], refl, (class, whole.3, refl), refl)))))
  none_begins kw.Ask n m = no_ask n m
  none_begins kw.Resend n m = no_event kw.Resend ws (λ d whole are. first kw.Resend n (_, [], behind _ _ _ _ are, (d, whole, refl), refl))
  none_begins kw.Ack n m = no_event kw.Ack ws (λ d whole are. first kw.Ack n (_, [], behind _ _ _ _ are, (d, whole, refl), refl))
  none_begins kw.Status n m = no_event kw.Status ws (λ d whole are. first kw.Status n (_, [], behind _ _ _ _ are, (d, whole, refl), refl))
  none_begins kw.Register n m = no_event kw.Register ws (λ d origin key whole are.
      first kw.Register n (_, _, behind _ _ _ _ are, (d, whole.0, refl), (_, _, refl, (origin, whole.1, refl), (_, [], refl, (key, whole.2, refl), refl))))
  none_begins kw.Customer n m = no_event kw.Customer ws (λ c whole are. first kw.Customer n (_, [], behind _ _ _ _ are, (c, whole, refl), refl))
  none_begins kw.Deposit n m = no_event kw.Deposit ws (λ c receipt amount whole are.
      first kw.Deposit n (_, _, behind _ _ _ _ are, (c, whole.0, refl), (_, _, refl, (receipt, whole.1, refl), (_, [], refl, (amount, whole.2, refl), refl))))
  none_begins kw.Suspend n m = no_event kw.Suspend ws (λ c whole are. first kw.Suspend n (_, [], behind _ _ _ _ are, (c, whole, refl), refl))
  none_begins kw.Resume n m = no_event kw.Resume ws (λ c whole are. first kw.Resume n (_, [], behind _ _ _ _ are, (c, whole, refl), refl))
  none_begins kw.Balance n m = no_event kw.Balance ws (λ c whole are. first kw.Balance n (_, [], behind _ _ _ _ are, (c, whole, refl), refl))
  none_begins kw.Deliver n m = no_event kw.Deliver ws (λ k whole are. first kw.Deliver n (_, [], behind _ _ _ _ are, (k, whole, refl), refl))
  none_begins kw.Give n m = no_event kw.Give ws (λ node bytes whole are. first kw.Give n (_, _, behind _ _ _ _ are, (node, whole.0, refl), (_, [], refl, (bytes, whole.1, refl), refl)))
  none_begins kw.Order n m = no_event kw.Order ws (λ d piece class grams zone whole are.
      first kw.Order n (
        _,
        _,
        behind _ _ _ _ are,
        (d, whole.0, refl),
        (
          _,
          _,
          refl,
          (piece, whole.1, refl),
          (
            _,
            _,
            refl,
            (class, whole.2, refl),
            (_, _, refl, (grams, whole.3, refl), (_, [], refl, (zone, whole.4, refl), refl)),
          ),
        ),
      ))
  none_begins kw.Send n m = no_event kw.Send ws (λ j whole are. first kw.Send n (_, [], behind _ _ _ _ are, (j, whole, refl), refl))
  none_begins kw.Print n m = no_event kw.Print ws (λ j whole are. first kw.Print n (_, [], behind _ _ _ _ are, (j, whole, refl), refl))
  none_begins kw.Close n m = no_event kw.Close ws (λ j whole are. first kw.Close n (_, [], behind _ _ _ _ are, (j, whole, refl), refl))
  none_begins kw.Trust n m = no_event kw.Trust ws (λ d key whole are. first kw.Trust n (_, _, behind _ _ _ _ are, (d, whole.0, refl), (_, [], refl, (key, whole.1, refl), refl)))
  none_begins kw.Scan n m = no_event kw.Scan ws (
    (λ scan k whole are. first kw.Scan n (_, _, behind _ _ _ _ are, (scan, whole.0, whole.1, refl), (codes "msg", _, refl, refl, (_, [], refl, (k, whole.2, refl), refl)))),
    (λ scan bytes whole are. second kw.Scan m (_, _, behind _ _ _ _ are, (scan, whole.0, whole.1, refl), (codes "hex", _, refl, refl, (_, [], refl, (bytes, whole.2, refl), refl)))),
  )
  none_begins kw.Reconcile n m = no_event kw.Reconcile ws (λ d whole are. first kw.Reconcile n (_, [], behind _ _ _ _ are, (d, whole, refl), refl))
  none_begins kw.End n m = no_event kw.End ws (λ whole are. first kw.End n (behind _ _ _ _ are))
