-- A golden test of today's version of the rules, to the byte. It goes on after a ledger of the first one. The bytes were made by another program.
use Rattle.std.specs.Prelude.{ℕ, pos, false, List, [], ◌∷◌, None}
use Rattle.bench_base.specs.declared.{words.Kind.TheVariants.Reset, words.Kind.TheVariants.Audit, words.Verdict.TheVariants.Granted, words.Phase.TheVariants.InService}
use Rattle.bench_base.specs.declared.refusals.DevRefusal.TheVariants as no
use Rattle.bench_base.specs.declared.ledger.Commit.TheVariants as c
use Rattle.bench_base.specs.declared.ledger.Entry.TheVariants as e
use Rattle.bench_base.specs.declared.events.Event.TheVariants as ev
use Rattle.bench_base.specs.declared.events.Reply.TheVariants as r
use Rattle.bench_base.specs.Ledger.{Ledger}
use Rattle.tests_laws.specs.Runs.{Step}
use Rattle.tests_laws.specs.Rows.{debit_1, settled_ledger}

abbrev pub new_mark_1 : List ℕ
new_mark_1 =
    2 ∷ 1 ∷ 0 ∷ 1 ∷ 0 ∷ 0 ∷ 0 ∷ 1 ∷ 0 ∷ 0 ∷ 2 ∷ 38 ∷ 0 ∷ 0 ∷ 0 ∷ 2 ∷ 38 ∷ 0 ∷ 0 ∷ 0 ∷ 193 ∷ 42 ∷ 0 ∷ 0 ∷ 80 ∷ 33 ∷ 0 ∷
    1 ∷ 111 ∷ 153 ∷ 0 ∷ 1 ∷ 151 ∷ 46 ∷ 137 ∷ 187 ∷ 229 ∷ 239 ∷ 124 ∷ 125 ∷ 125 ∷ 51 ∷ 120 ∷ 223 ∷ 188 ∷ 55 ∷ 233 ∷
    192 ∷ 215 ∷ 200 ∷ 139 ∷ 134 ∷ 179 ∷ 136 ∷ 87 ∷ 53 ∷ 61 ∷ 254 ∷ 138 ∷ 37 ∷ 238 ∷ 245 ∷ 242 ∷ 192 ∷ []

abbrev pub new_release_1 : List ℕ
new_release_1 =
    1 ∷ 17 ∷ 2 ∷ 1 ∷ 0 ∷ 1 ∷ 0 ∷ 0 ∷ 0 ∷ 1 ∷ 0 ∷ 0 ∷ 2 ∷ 38 ∷ 0 ∷ 0 ∷ 0 ∷ 2 ∷ 38 ∷ 0 ∷ 0 ∷ 0 ∷ 193 ∷ 42 ∷ 0 ∷ 0 ∷ 80 ∷
    33 ∷ 0 ∷ 1 ∷ 111 ∷ 153 ∷ 0 ∷ 1 ∷ 151 ∷ 46 ∷ 137 ∷ 187 ∷ 229 ∷ 239 ∷ 124 ∷ 125 ∷ 125 ∷ 51 ∷ 120 ∷ 223 ∷ 188 ∷ 55 ∷
    233 ∷ 192 ∷ 215 ∷ 200 ∷ 139 ∷ 134 ∷ 179 ∷ 136 ∷ 87 ∷ 53 ∷ 61 ∷ 254 ∷ 138 ∷ 37 ∷ 238 ∷ 245 ∷ 242 ∷ 192 ∷ []

abbrev pub new_mark_2 : List ℕ
new_mark_2 =
    2 ∷ 1 ∷ 0 ∷ 1 ∷ 0 ∷ 0 ∷ 0 ∷ 2 ∷ 0 ∷ 0 ∷ 3 ∷ 232 ∷ 0 ∷ 0 ∷ 0 ∷ 6 ∷ 14 ∷ 0 ∷ 0 ∷ 0 ∷ 189 ∷ 66 ∷ 0 ∷ 0 ∷ 80 ∷ 126 ∷
    0 ∷ 1 ∷ 111 ∷ 153 ∷ 0 ∷ 1 ∷ 198 ∷ 174 ∷ 24 ∷ 112 ∷ 160 ∷ 244 ∷ 236 ∷ 64 ∷ 83 ∷ 206 ∷ 92 ∷ 178 ∷ 126 ∷ 228 ∷ 122 ∷
    216 ∷ 213 ∷ 11 ∷ 54 ∷ 10 ∷ 177 ∷ 149 ∷ 36 ∷ 175 ∷ 127 ∷ 119 ∷ 145 ∷ 65 ∷ 27 ∷ 250 ∷ 140 ∷ 40 ∷ []

abbrev pub new_audit_4 : List ℕ
new_audit_4 =
    2 ∷ 1 ∷ 0 ∷ 0 ∷ 0 ∷ 1 ∷ 0 ∷ 0 ∷ 0 ∷ 4 ∷ 3 ∷ 0 ∷ 0 ∷ 0 ∷ 1 ∷ 0 ∷ 0 ∷ 0 ∷ 0 ∷ 0 ∷ 0 ∷ 0 ∷ 0 ∷ 0 ∷ 0 ∷ 0 ∷ 0 ∷ 0 ∷
    0 ∷ 6 ∷ 14 ∷ 0 ∷ 0 ∷ 0 ∷ 0 ∷ 0 ∷ 0 ∷ 189 ∷ 66 ∷ 0 ∷ 0 ∷ 0 ∷ 0 ∷ 0 ∷ 0 ∷ 0 ∷ 0 ∷ 0 ∷ 0 ∷ 0 ∷ 2 ∷ 0 ∷ 0 ∷ 80 ∷ 126 ∷
    18 ∷ 102 ∷ 37 ∷ 172 ∷ 152 ∷ 93 ∷ 142 ∷ 28 ∷ 41 ∷ 124 ∷ 7 ∷ 233 ∷ 177 ∷ 51 ∷ 70 ∷ 161 ∷ 142 ∷ 107 ∷ 185 ∷ 70 ∷ 11 ∷
    33 ∷ 126 ∷ 0 ∷ 156 ∷ 226 ∷ 221 ∷ 49 ∷ 248 ∷ 254 ∷ 31 ∷ 171 ∷ []

abbrev pub new_granted_4 : List ℕ
new_granted_4 =
    2 ∷ 2 ∷ 0 ∷ 0 ∷ 0 ∷ 1 ∷ 0 ∷ 0 ∷ 0 ∷ 4 ∷ 3 ∷ 0 ∷ 0 ∷ 0 ∷ 0 ∷ 0 ∷ 0 ∷ 0 ∷ 0 ∷ 0 ∷ 0 ∷ 0 ∷ 80 ∷ 218 ∷ 0 ∷ 1 ∷ 111 ∷
    153 ∷ 222 ∷ 243 ∷ 106 ∷ 196 ∷ 180 ∷ 253 ∷ 69 ∷ 77 ∷ 129 ∷ 99 ∷ 180 ∷ 134 ∷ 67 ∷ 54 ∷ 163 ∷ 78 ∷ 97 ∷ 226 ∷ 135 ∷
    142 ∷ 46 ∷ 115 ∷ 236 ∷ 177 ∷ 45 ∷ 26 ∷ 66 ∷ 45 ∷ 138 ∷ 105 ∷ 244 ∷ 201 ∷ []

abbrev pub today_steps : List Step
today_steps =
    record { event = ev.Order 1 1 1 25 1; text = []; reply = r.Ordered 1 550 }
    ∷ record { event = ev.Send 1; text = []; reply = r.SentDebit 1 7 }
    ∷ record { event = ev.Deliver 7; text = []; reply = r.Released 1 1 false 8 }
    ∷ record { event = ev.Deliver 8; text = []; reply = r.Held 1 }
    ∷ record { event = ev.Print 1; text = []; reply = r.Printed 1 }
    ∷ record { event = ev.ScanMsg 1 8; text = []; reply = r.Accepted 1 1 1 false }
    ∷ record { event = ev.Day (pos 20606); text = []; reply = r.Day (pos 20606) }
    ∷ record { event = ev.Debit 1 2 1001 1; text = []; reply = r.DevRefused 1 (no.Due (pos 20605)) }
    ∷ record { event = ev.Debit 1 2 1000 1; text = []; reply = r.Marked 1 2 false new_mark_2 }
    ∷ record { event = ev.Ask 1 Reset 0 1; text = []; reply = r.DevRefused 1 (no.Due (pos 20605)) }
    ∷ record { event = ev.Ask 1 Audit 0 0; text = []; reply = r.SentRequest 1 4 9 }
    ∷ record { event = ev.Deliver 9; text = []; reply = r.Ruled 1 4 Granted false 10 }
    ∷ record { event = ev.Deliver 10; text = []; reply = r.Applied 1 4 Granted }
    ∷ record {
      event = ev.Status 1;
      text = [];
      reply = r.Status 1 (record {
        phase = InService;
        ascending = 1550;
        descending = 48450;
        refunded = 0;
        pieces = 2;
        number = 4;
        deadline = pos 20698;
        pending = None;
      });
    }
    ∷ []

abbrev pub today_ledger : Ledger
today_ledger =
    e.Commit (c.Applied 1 4 Granted)
    ∷ e.Sent new_granted_4
    ∷ e.Commit (c.Ruled 1 4 Granted new_audit_4)
    ∷ e.Sent new_audit_4
    ∷ e.Commit (c.Asked 1 4 new_audit_4)
    ∷ e.Released 1 2 new_mark_2
    ∷ e.Commit (c.Debited 1 2 1000 1 (pos 20606) 2)
    ∷ e.Day (pos 20606)
    ∷ e.Commit (c.Accepted 1 1 1)
    ∷ e.Printed 1 new_mark_1
    ∷ e.Commit (c.Began 1)
    ∷ e.Commit (c.Held 1 new_mark_1)
    ∷ e.Sent new_release_1
    ∷ e.Released 1 1 new_mark_1
    ∷ e.Commit (c.Debited 1 1 550 1 (pos 20513) 2)
    ∷ e.Sent debit_1
    ∷ e.Commit (c.Ordered 1 1 1 550 1)
    ∷ settled_ledger
