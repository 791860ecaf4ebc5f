-- A node that was switched on or off, or had its fuse armed.
use Rattle.std.proofs.Common.{◌≡◌, ◌≢◌, inl, inr, ℕ, ℤ, List, [], ◌∷◌, Some, None, Bool, true, false, if◌then◌else◌, ◌↔◌, refl, sym, ◌∙◌, ap, subst, true≢false, arith}
use Rattle.bench_base.specs.declared.{words.Node.Node, ledger.Commit.Commit}
use Rattle.bench_base.specs.declared.ledger.Entry.TheVariants as entry
use Rattle.bench_base.specs.declared.events.Event.TheVariants as ev
use Rattle.bench_base.specs.declared.events.Reply.TheVariants as r
use Rattle.bench_base.specs.Nodes.{same_node}
use Rattle.bench_base.specs.Plans.{Plan, refuse, told}
use Rattle.bench_base.specs.Replies.{has_read, is_refusal, MayGet}
use Rattle.bench_base.proofs.Facts.{same_node_self}
use Rattle.nv_model.specs.declared.nv.Nv as nv
use Rattle.nv_model.specs.declared.fuse.Fuse as fuse
use Rattle.nv_model.specs.Meters.{Meters}
use Rattle.nv_store.specs.Mounts.{Mounts}
use Rattle.nv_store.specs.Turns.{Spent}
use Rattle.node_acts.specs.declared.{act.Started.Started, asked.Asked.TheVariants.On, asked.Asked.TheVariants.Off, asked.Asked.TheVariants.Cut}
use Rattle.node_acts.specs.declared.act.Started.TheVariants as start
use Rattle.node_acts.specs.Views.{Counting, View, stopped}
use Rattle.node_acts.specs.Starts.{MayStart, after_start, leaves_on, HasRead}
use Rattle.node_acts.specs.Plans.{after, MayReply, view_after}
use Rattle.node_acts.specs.Kinds.{Kind}
use Rattle.node_storage.specs.declared.node.Node.{Ghosts}
use Rattle.node_storage.specs.Shown.{Allowed}
use Rattle.node_storage.specs.Stands.{times_of, HasDamage, IsArmed, Stands}
use Rattle.node_storage.specs.Starts.{StartDoes, StopDoes, ArmDoes}
use Rattle.node_storage.specs.Ends.{end_of_start}
use Rattle.node_storage.proofs.Rests.{uses_none, mounts_none}
use Rattle.node_turns.specs.Adds.{Adds}
use Rattle.node_turns.specs.Costs.{Charged}
use Rattle.node_turns.specs.NodeTurns.{Switches, NodeTurn}
use Rattle.node_turns.specs.Turns.{in_order, made_in, start_turn, stop_turn, turn_of}
use Rattle.node_turns.proofs.Calls.{no}

-- == by what is seen of the node ==

module _ {S X : Type 0} (n : Counting S X) (m : Node) where
  abbrev boot_plan : Bool → View S → Plan
  boot_plan on v = if on then refuse (r.OnAlready m) else told (r.Up m (n.count v.state)) (entry.Up m (n.count v.state) ∷ [])

  start_may : (v : View S) (on : Bool) (x : Started) → v.on ≡ on → MayStart n v x → MayReply n m v (boot_plan on v) (start_turn m x).reply
  start_may v true start.Already is may = inl refl
  start_may v false start.Already is may = no (sym is ∙ may)
  start_may v true (start.Up k) is may = no (sym may.0 ∙ is)
  start_may v false (start.Up k) is (off, inl same) = inl (ap (r.Up m) same)
  start_may v false (start.Up k) is (off, inr more) = inr (inl (refl, more.0, ap (r.Up m) more.1))
  start_may v true start.Power is may = no (sym may ∙ is)
  start_may v false start.Power is may = inr (inr (inl (n.count v.state, refl)))
  start_may v true start.Fault is may = no (sym may ∙ is)
  start_may v false start.Fault is may = inr (inr (inl (n.count v.state, refl)))
  start_may v on start.Damaged is may = absurd may

  start_entries : (v : View S) (on : Bool) (x : Started) → v.on ≡ on → MayStart n v x → (start_turn m x).entries ≡ in_order (after (boot_plan on v) (start_turn m x).reply [])
  start_entries v true start.Already is may = refl
  start_entries v false start.Already is may = no (sym is ∙ may)
  start_entries v true (start.Up k) is may = refl
  start_entries v false (start.Up k) is may = refl
  start_entries v true start.Power is may = refl
  start_entries v false start.Power is may = refl
  start_entries v true start.Fault is may = refl
  start_entries v false start.Fault is may = refl
  start_entries v on start.Damaged is may = absurd may

  start_view : (x : Started) (v : View S) → after_start n x v ≡ view_after n (start_turn m x).reply None v
  start_view start.Already v = refl
  start_view (start.Up k) v = refl
  start_view start.Power v = refl
  start_view start.Fault v = refl
  start_view start.Damaged v = refl

  abbrev stop_plan : Bool → Plan
  stop_plan on = if on then told (r.Down m) (entry.Down m ∷ []) else refuse (r.OffNode m)

  stop_may : (was : Bool) → (stop_turn m was).reply ≡ (stop_plan was).reply
  stop_may true = refl
  stop_may false = refl

  stop_entries : (was : Bool) → (stop_turn m was).entries ≡ in_order (after (stop_plan was) (stop_turn m was).reply [])
  stop_entries true = refl
  stop_entries false = refl

-- == whether or not the storage exposes its contents ==

module _ (m : Node) where
  start_gets : (x : Started) → MayGet (ev.On m) (start_turn m x).reply
  start_gets start.Already = refl
  start_gets (start.Up k) = refl
  start_gets start.Power = inl refl
  start_gets start.Fault = inl refl
  start_gets start.Damaged = refl

  start_on_day : (x : Started) → (start_turn m x).reply ≢ r.NoDay
  start_on_day start.Already e = cc
  start_on_day (start.Up k) e = cc
  start_on_day start.Power e = cc
  start_on_day start.Fault e = cc
  start_on_day start.Damaged e = cc

  start_refused : (x : Started) (P : Type 0) → (x ≡ start.Already → P) → is_refusal (start_turn m x).reply ≡ true → P × ((start_turn m x).entries ≡ in_order [])
  start_refused start.Already P stays is = (stays refl, refl)
  start_refused (start.Up k) P stays is = no is
  start_refused start.Power P stays is = no is
  start_refused start.Fault P stays is = no is
  start_refused start.Damaged P stays is = no is

  start_adds : (x : Started) → Adds (ev.On m) (start_turn m x).reply (start_turn m x).entries
  start_adds start.Already = refl
  start_adds (start.Up k) = refl
  start_adds start.Power = inl refl
  start_adds start.Fault = inl refl
  start_adds start.Damaged = refl

  start_unmade : (x : Started) {P : Type 0} (c : Commit) → made_in (start_turn m x).entries ≡ Some c → P
  start_unmade start.Already c made = cc
  start_unmade (start.Up k) c made = cc
  start_unmade start.Power c made = cc
  start_unmade start.Fault c made = cc
  start_unmade start.Damaged c made = cc

  start_found : (x : Started) (Bad : Type 0) → (HasRead x → (x ≡ start.Damaged) ↔ Bad) → has_read (start_turn m x).reply ≡ true → ((start_turn m x).reply ≡ r.Damaged m) ↔ Bad
  start_found start.Already Bad found is = no is
  start_found (start.Up k) Bad found is = let f = found tt in (λ e. cc, λ bad. let e = f.1 bad in cc)
  start_found start.Power Bad found is = no is
  start_found start.Fault Bad found is = no is
  start_found start.Damaged Bad found is = let f = found tt in (λ e. f.0 refl, λ bad. refl)

  start_charged : (x : Started) (was is : Meters) → Spent 1 was is (end_of_start x) → Charged m (ev.On m) (start_turn m x).reply was is
  start_charged start.Already was is s = record { cuts = s.cuts; faults = s.faults; fuse = λ cut. s.fuse; power = λ e. no e; fault = λ e. no e }
  start_charged (start.Up k) was is s = record { cuts = s.cuts; faults = s.faults; fuse = λ cut. s.fuse; power = λ e. no e; fault = λ e. no e }
  start_charged start.Power was is s = record { cuts = s.cuts; faults = s.faults; fuse = λ cut. s.fuse; power = λ e. s.power refl; fault = λ e. no e }
  start_charged start.Fault was is s = record { cuts = s.cuts; faults = s.faults; fuse = λ cut. s.fuse; power = λ e. no e; fault = λ e. s.fault refl }
  start_charged start.Damaged was is s = record { cuts = s.cuts; faults = s.faults; fuse = λ cut. s.fuse; power = λ e. no e; fault = λ e. no e }

  start_already : (x : Started) (was : Bool) → (x ≡ start.Already) ↔ (was ≡ true) → ((start_turn m x).reply ≡ r.OnAlready m) ↔ (was ≡ true)
  start_already start.Already was found = (λ e. found.0 refl, λ on. refl)
  start_already (start.Up k) was found = (λ e. cc, λ on. let e = found.1 on in cc)
  start_already start.Power was found = (λ e. cc, λ on. let e = found.1 on in cc)
  start_already start.Fault was found = (λ e. cc, λ on. let e = found.1 on in cc)
  start_already start.Damaged was found = (λ e. cc, λ on. let e = found.1 on in cc)

  start_switches : (x : Started) (was is : Bool) → (x ≡ start.Already) ↔ (was ≡ true) → is ≡ leaves_on x → Switches m (ev.On m) (start_turn m x).reply was is
  start_switches start.Already was is found leaves = record { off = λ e. no e; already = λ e. start_already start.Already was found; leaves = leaves ∙ sym (found.0 refl) }
  start_switches (start.Up k) was is found leaves = record { off = λ e. no e; already = λ e. start_already (start.Up k) was found; leaves = leaves }
  start_switches start.Power was is found leaves = record { off = λ e. no e; already = λ e. start_already start.Power was found; leaves = leaves }
  start_switches start.Fault was is found leaves = record { off = λ e. no e; already = λ e. start_already start.Fault was found; leaves = leaves }
  start_switches start.Damaged was is found leaves = record { off = λ e. no e; already = λ e. start_already start.Damaged was found; leaves = leaves }

  stop_gets : (was : Bool) → MayGet (ev.Off m) (stop_turn m was).reply
  stop_gets true = refl
  stop_gets false = inl (refl, refl)

  stop_on_day : (was : Bool) → (stop_turn m was).reply ≢ r.NoDay
  stop_on_day true e = cc
  stop_on_day false e = cc

  stop_refused : (was : Bool) (P : Type 0) → (was ≡ false → P) → is_refusal (stop_turn m was).reply ≡ true → P × ((stop_turn m was).entries ≡ in_order [])
  stop_refused true P stays is = no is
  stop_refused false P stays is = (stays refl, refl)

  stop_adds : (was : Bool) → Adds (ev.Off m) (stop_turn m was).reply (stop_turn m was).entries
  stop_adds true = refl
  stop_adds false = refl

  stop_unmade : (was : Bool) {P : Type 0} (c : Commit) → made_in (stop_turn m was).entries ≡ Some c → P
  stop_unmade true c made = cc
  stop_unmade false c made = cc

  stop_charged : (was : Bool) (a b : Meters) → b ≡ a → Charged m (ev.Off m) (stop_turn m was).reply a b
  stop_charged true a b same = subst (λ (c : Meters). Charged m (ev.Off m) (stop_turn m true).reply a c) (sym same)
      (record { cuts = omega arith; faults = omega arith; fuse = λ cut. uses_none 0 a.fuse; power = λ e. no e; fault = λ e. no e })
  stop_charged false a b same = subst (λ (c : Meters). Charged m (ev.Off m) (stop_turn m false).reply a c) (sym same)
      (record { cuts = omega arith; faults = omega arith; fuse = λ cut. uses_none 0 a.fuse; power = λ e. no e; fault = λ e. no e })

  stop_switches : (was is : Bool) → is ≡ false → Switches m (ev.Off m) (stop_turn m was).reply was is
  stop_switches true is off = record { off = λ e. (λ e. cc, λ e. cc); already = λ e. cc; leaves = off }
  stop_switches false is off = record { off = λ e. (λ e. refl, λ e. refl); already = λ e. cc; leaves = off }

  cut_charged : (calls keep byte left : ℕ) (a b : Meters) → b ≡ record a { fuse = Some left } → Charged m (ev.Cut m calls keep byte) (r.CutSet m) a b
  cut_charged calls keep byte left a b same = subst (λ (c : Meters). Charged m (ev.Cut m calls keep byte) (r.CutSet m) a c) (sym same)
      (record { cuts = omega arith; faults = omega arith; fuse = λ cut. absurd (own_cut m cut); power = λ e. no e; fault = λ e. no e })
    where
      own_cut : (i : Node) → same_node i i ≡ false → ⊥
      own_cut i is = absurd (true≢false (sym (same_node_self i) ∙ is))

-- == a node in its place ==

module _ {K S N C R X : Type 0} (n : Ghosts K S N C R) (g : nv.Ghosts S) (f : fuse.Ghosts S) (kind : Kind N n.Seen X) (m : Node) (d : N) (today : ℤ) (s t : K) where
  -- where nothing was written, each image is one that the node had
  unwritten_shows : Mounts (times_of n g s) (times_of n g t) → (v : View n.Seen) → Stands n g d v s → g.tells → (image : List ℕ)
      → (times_of n g t).since (times_of n g s).moment image → Allowed n v image
  unwritten_shows mounts v st tells image is = st.store.shows tells image (mounts.images image is)

  pub turn_on : (x : Started) → StartDoes n g d s t x → NodeTurn n g f kind m d today (ev.On m) On s t (start_turn m x)
  turn_on x did = record {
    by_view = λ v st tells. record {
      may = start_may n.counting m v v.on x refl (did.comes v st tells);
      entries = start_entries n.counting m v v.on x refl (did.comes v st tells);
      stands = subst (λ (w : View n.Seen). Stands n g d w t) (start_view n.counting m x v) (did.stands v st tells);
      any_moment = λ image is. inl (unwritten_shows (did.mounts tells) v st tells image is);
    };
    keeps = λ v st tells. tt;
    reply = start_gets m x;
    on_day = start_on_day m x;
    refused = start_refused m x (t ≡ s) did.refused;
    adds = start_adds m x;
    uses = λ c made. start_unmade m x c made;
    untouched = λ calls. no calls.0;
    unwritten = λ tells is. did.mounts tells;
    found = λ tells is. start_found m x (HasDamage n d t) (did.damaged tells);
    charged = start_charged m x _ _ did.spent;
    switches = start_switches m x _ _ did.already did.leaves;
    armed = λ calls keep byte is. cc;
  }

  same_times : n.storage t ≡ n.storage s → Mounts (times_of n g s) (times_of n g t)
  same_times same = subst (λ (i : S). Mounts (times_of n g s) (g.times i)) (sym same) (mounts_none (times_of n g s))

  stop_stands : (was : Bool) (v : View n.Seen) → (was ≡ false → t ≡ s) → Stands n g d v s → Stands n g d (stopped v) t
      → Stands n g d (view_after n.counting (stop_turn m was).reply None v) t
  stop_stands true v same st stopped = stopped
  stop_stands false v same st stopped = subst (λ (k : K). Stands n g d v k) (sym (same refl)) st

  pub turn_off : (was : Bool) → StopDoes n g s t was → NodeTurn n g f kind m d today (ev.Off m) Off s t (stop_turn m was)
  turn_off was did = record {
    by_view = λ v st tells.
        let on : was ≡ v.on = did.was_on ∙ st.on in
        record {
          may = inl (stop_may n.counting m was ∙ ap (λ (b : Bool). (stop_plan n.counting m b).reply) on);
          entries = stop_entries n.counting m was ∙ ap (λ (b : Bool). in_order (after (stop_plan n.counting m b) (stop_turn m was).reply [])) on;
          stands = stop_stands was v did.refused st (did.stands d v st);
          any_moment = λ image is. inl (unwritten_shows (same_times did.storage) v st tells image is);
        };
    keeps = λ v st tells. tt;
    reply = stop_gets m was;
    on_day = stop_on_day m was;
    refused = stop_refused m was (t ≡ s) did.refused;
    adds = stop_adds m was;
    uses = λ c made. stop_unmade m was c made;
    untouched = λ calls. absurd (calls.1 m refl);
    unwritten = λ tells is. same_times did.storage;
    found = λ tells is. cc;
    charged = stop_charged m was _ _ (ap g.meters did.storage);
    switches = subst (λ (b : Bool). Switches m (ev.Off m) (stop_turn m was).reply b (n.is_on t)) did.was_on (stop_switches m was (n.is_on t) did.off);
    armed = λ calls keep byte is. cc;
  }

  pub turn_cut : (calls keep byte : ℕ) → ArmDoes n g f calls keep byte s t → NodeTurn n g f kind m d today (ev.Cut m calls keep byte) (Cut calls keep byte) s t (turn_of (r.CutSet m) [])
  turn_cut calls keep byte did = record {
    by_view = λ v st tells. record {
      may = inl refl;
      entries = refl;
      stands = did.stands d v st;
      any_moment = λ image is. inl (unwritten_shows (did.mounts tells) v st tells image is);
    };
    keeps = λ v st tells. tt;
    reply = (calls, keep, byte, refl);
    on_day = λ e. cc;
    refused = λ is. no is;
    adds = refl;
    uses = λ c made. cc;
    untouched = λ calls. no calls.0;
    unwritten = λ tells is. did.mounts tells;
    found = λ tells is. cc;
    charged = cut_charged m calls keep byte calls _ _ did.meters;
    switches = record { off = λ e. no e; already = λ e. cc; leaves = did.leaves };
    armed = λ calls' keep' byte' is.
        subst (λ (b : ℕ). IsArmed n f t calls' keep' b) (cc) (subst (λ (k : ℕ). IsArmed n f t calls' k byte) (cc) (subst (λ (c : ℕ). IsArmed n f t c keep byte) (cc) did.armed));
  }
