-- What a line of the report shows about an event of one node, by what is seen of the node.
use Rattle.std.specs.Prelude.{◌≡◌, ◌≢◌, ℕ, List, [], ◌∷◌, Option, None, Result, Ok, Err}
use Rattle.bench_base.specs.declared.{words.Node.Node, ledger.Commit.Commit, events.Reply.Reply}
use Rattle.bench_base.specs.declared.ledger.Entry.TheVariants as entry
use Rattle.bench_base.specs.declared.events.Reply.TheVariants as r
use Rattle.bench_base.specs.Plans.{Plan, refuse, told}
use Rattle.bench_base.specs.Replies.{class_of}
use Rattle.node_acts.specs.declared.{act.Act.Act, said.Said.Said}
use Rattle.node_acts.specs.Views.{Counting, View}
use Rattle.node_acts.specs.Acts.{commit_of}
use Rattle.node_acts.specs.Plans.{MayReply, view_after, after, on_plan, when_on}
use Rattle.node_acts.specs.Said.{seen_plan}
use Rattle.node_turns.specs.Turns.{turn_of}
use Rattle.node_turns.specs.declared.turn.Turn.{Turn}
use Rattle.script_text.specs.Texts.{text_of, IsWholeReply}

-- == what a line shows ==

-- The event of node m has this plan and this commit, by what is seen of the node.
module _ {S X : Type 0} (n : Counting S X) (m : Node) (v : View S) (p : Plan) (made : Option (Commit × S)) where
  -- The line is that of this reply, its numbers are in range, and the event may get it; the node is left so. Any other reply that it may get with
  -- that line means the same, and so leaves the same ledger.
  pub record TellsOf (line : List ℕ) (w : View S) (reply : Reply) : Type 0 where
    pub text : text_of reply ≡ line
    pub whole : IsWholeReply reply
    pub may : MayReply n m v p reply
    pub leaves : w ≡ view_after n reply made v
    pub alone : (other : Reply) → MayReply n m v p other → text_of other ≡ line → class_of other ≡ class_of reply

  -- no reply that the event may get has this line; the answer was due, or a failure in its place
  pub record TellsNone (line : List ℕ) (w : View S) (due : Reply) : Type 0 where
    pub due_is : due ≡ p.reply
    pub none : (reply : Reply) → MayReply n m v p reply → text_of reply ≢ line
    pub rests : w ≡ v

  -- what is judged of the line, where `IsOf` says how the turn of the event is reported
  abbrev pub Judged : {T : Type 0} → (T → Turn → Type 0) → List ℕ → View S → Result T Reply → Type 0
  Judged IsOf line w (Ok told) = (reply : Reply) × TellsOf line w reply × IsOf told (turn_of reply (after p reply []))
  Judged IsOf line w (Err due) = TellsNone line w due

-- == of what a node is asked ==

module _ {S X : Type 0} (n : Counting S X) (m : Node) (v : View S) where
  -- a call of this act
  abbrev pub JudgedCall : {T : Type 0} → (T → Turn → Type 0) → Act X Reply Said → List ℕ → View S → Result T Reply → Type 0
  JudgedCall IsOf act line w result = Judged n m v (seen_plan n m v act) (commit_of n v act) IsOf line w result

  abbrev pub JudgedOn : {T : Type 0} → (T → Turn → Type 0) → List ℕ → View S → Result T Reply → Type 0
  JudgedOn IsOf line w result = Judged n m v (on_plan n m v) None IsOf line w result

  abbrev pub JudgedOff : {T : Type 0} → (T → Turn → Type 0) → List ℕ → View S → Result T Reply → Type 0
  JudgedOff IsOf line w result = Judged n m v (when_on m v (told (r.Down m) (entry.Down m ∷ []))) None IsOf line w result

  abbrev pub JudgedCut : {T : Type 0} → (T → Turn → Type 0) → List ℕ → View S → Result T Reply → Type 0
  JudgedCut IsOf line w result = Judged n m v (refuse (r.CutSet m)) None IsOf line w result
