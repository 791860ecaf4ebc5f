-- Worked rows: scripts, what they are answered, and the ledgers that they make, to the byte. The bytes were made by another program.
use Rattle.std.specs.Prelude.{ℕ, pos, true, false, List, [], ◌∷◌, Some, None}
use Rattle.bench_base.specs.declared.{words.Node.TheVariants.Device, words.Node.TheVariants.Centre, words.Node.TheVariants.Host, words.Node.TheVariants.Verifier, words.Kind.TheVariants.Enrol, words.Kind.TheVariants.Reset, words.Kind.TheVariants.Audit, words.Kind.TheVariants.Refund, words.Kind.TheVariants.Withdraw, words.Verdict.TheVariants.Granted, words.Verdict.TheVariants.NoFunds, words.Verdict.TheVariants.Suspended, words.Phase.TheVariants.InService, words.Phase.TheVariants.Withdrawn, refusals.RateRefusal.TheVariants.NoClass}
use Rattle.bench_base.specs.declared.words.JobState.TheVariants as js
use Rattle.bench_base.specs.declared.refusals.Unread.TheVariants as unread
use Rattle.bench_base.specs.declared.refusals.MarkFault.TheVariants as mark_fault
use Rattle.bench_base.specs.declared.refusals.DevRefusal.TheVariants as no
use Rattle.bench_base.specs.declared.refusals.CentreRefusal.TheVariants as not_c
use Rattle.bench_base.specs.declared.refusals.HostRefusal.TheVariants as not_h
use Rattle.bench_base.specs.declared.refusals.ScanRefusal.TheVariants as not_v
use Rattle.bench_base.specs.declared.ledger.Commit.TheVariants as c
use Rattle.bench_base.specs.declared.ledger.Entry.TheVariants as e
use Rattle.bench_base.specs.declared.events.Event.TheVariants as ev
use Rattle.bench_base.specs.declared.events.Reply.TheVariants as r
use Rattle.bench_base.specs.Ledger.{Ledger}
use Rattle.tests_laws.specs.Runs.{Step}

abbrev pub key1 : List ℕ
key1 =
    1 ∷ 1 ∷ 1 ∷ 1 ∷ 1 ∷ 1 ∷ 1 ∷ 1 ∷ 1 ∷ 1 ∷ 1 ∷ 1 ∷ 1 ∷ 1 ∷ 1 ∷ 1 ∷ 1 ∷ 1 ∷ 1 ∷ 1 ∷ 1 ∷ 1 ∷ 1 ∷ 1 ∷ 1 ∷ 1 ∷ 1 ∷ 1 ∷
    1 ∷ 1 ∷ 1 ∷ 1 ∷ []

abbrev pub rates1 : List ℕ
rates1 =
    122 ∷ 111 ∷ 110 ∷ 101 ∷ 115 ∷ 32 ∷ 61 ∷ 32 ∷ 50 ∷ 10 ∷ 91 ∷ 91 ∷ 99 ∷ 108 ∷ 97 ∷ 115 ∷ 115 ∷ 93 ∷ 93 ∷ 10 ∷
    110 ∷ 117 ∷ 109 ∷ 98 ∷ 101 ∷ 114 ∷ 32 ∷ 61 ∷ 32 ∷ 49 ∷ 10 ∷ 115 ∷ 116 ∷ 101 ∷ 112 ∷ 115 ∷ 32 ∷ 61 ∷ 32 ∷ 91 ∷
    123 ∷ 32 ∷ 103 ∷ 114 ∷ 97 ∷ 109 ∷ 115 ∷ 32 ∷ 61 ∷ 32 ∷ 50 ∷ 56 ∷ 44 ∷ 32 ∷ 109 ∷ 105 ∷ 108 ∷ 108 ∷ 115 ∷ 32 ∷
    61 ∷ 32 ∷ 91 ∷ 53 ∷ 53 ∷ 48 ∷ 44 ∷ 32 ∷ 53 ∷ 53 ∷ 48 ∷ 93 ∷ 32 ∷ 125 ∷ 44 ∷ 32 ∷ 123 ∷ 32 ∷ 103 ∷ 114 ∷ 97 ∷
    109 ∷ 115 ∷ 32 ∷ 61 ∷ 32 ∷ 53 ∷ 54 ∷ 44 ∷ 32 ∷ 109 ∷ 105 ∷ 108 ∷ 108 ∷ 115 ∷ 32 ∷ 61 ∷ 32 ∷ 91 ∷ 55 ∷ 57 ∷ 48 ∷
    44 ∷ 32 ∷ 56 ∷ 53 ∷ 48 ∷ 93 ∷ 32 ∷ 125 ∷ 93 ∷ 10 ∷ 91 ∷ 91 ∷ 99 ∷ 108 ∷ 97 ∷ 115 ∷ 115 ∷ 93 ∷ 93 ∷ 10 ∷ 110 ∷
    117 ∷ 109 ∷ 98 ∷ 101 ∷ 114 ∷ 32 ∷ 61 ∷ 32 ∷ 50 ∷ 10 ∷ 115 ∷ 116 ∷ 101 ∷ 112 ∷ 115 ∷ 32 ∷ 61 ∷ 32 ∷ 91 ∷ 123 ∷
    32 ∷ 103 ∷ 114 ∷ 97 ∷ 109 ∷ 115 ∷ 32 ∷ 61 ∷ 32 ∷ 53 ∷ 48 ∷ 48 ∷ 44 ∷ 32 ∷ 109 ∷ 105 ∷ 108 ∷ 108 ∷ 115 ∷ 32 ∷
    61 ∷ 32 ∷ 91 ∷ 52 ∷ 49 ∷ 48 ∷ 48 ∷ 44 ∷ 32 ∷ 57 ∷ 50 ∷ 48 ∷ 48 ∷ 93 ∷ 32 ∷ 125 ∷ 93 ∷ 10 ∷ []

abbrev pub enrol_1 : List ℕ
enrol_1 =
    1 ∷ 1 ∷ 0 ∷ 0 ∷ 0 ∷ 1 ∷ 0 ∷ 0 ∷ 0 ∷ 1 ∷ 1 ∷ 0 ∷ 0 ∷ 0 ∷ 1 ∷ 0 ∷ 0 ∷ 0 ∷ 0 ∷ 0 ∷ 0 ∷ 0 ∷ 0 ∷ 0 ∷ 0 ∷ 0 ∷ 0 ∷ 0 ∷
    0 ∷ 0 ∷ 0 ∷ 0 ∷ 0 ∷ 0 ∷ 0 ∷ 0 ∷ 0 ∷ 80 ∷ 33 ∷ 223 ∷ 58 ∷ 113 ∷ 103 ∷ 86 ∷ 202 ∷ 27 ∷ 104 ∷ 32 ∷ 37 ∷ 229 ∷ 71 ∷
    63 ∷ 18 ∷ 200 ∷ 253 ∷ 224 ∷ 23 ∷ 145 ∷ 41 ∷ 4 ∷ 3 ∷ 63 ∷ 211 ∷ 25 ∷ 102 ∷ 142 ∷ 83 ∷ 119 ∷ 14 ∷ 93 ∷ 14 ∷ []

abbrev pub enrol_granted : List ℕ
enrol_granted =
    1 ∷ 2 ∷ 0 ∷ 0 ∷ 0 ∷ 1 ∷ 0 ∷ 0 ∷ 0 ∷ 1 ∷ 1 ∷ 0 ∷ 0 ∷ 0 ∷ 0 ∷ 0 ∷ 0 ∷ 0 ∷ 0 ∷ 0 ∷ 0 ∷ 1 ∷ 111 ∷ 153 ∷ 120 ∷ 241 ∷
    74 ∷ 215 ∷ 192 ∷ 227 ∷ 239 ∷ 191 ∷ 52 ∷ 240 ∷ 244 ∷ 7 ∷ 211 ∷ 234 ∷ 140 ∷ 228 ∷ 136 ∷ 46 ∷ 210 ∷ 228 ∷ 74 ∷
    115 ∷ 144 ∷ 65 ∷ 253 ∷ 213 ∷ 58 ∷ 48 ∷ 60 ∷ 196 ∷ 48 ∷ 241 ∷ []

abbrev pub audit_2 : List ℕ
audit_2 =
    1 ∷ 1 ∷ 0 ∷ 0 ∷ 0 ∷ 1 ∷ 0 ∷ 0 ∷ 0 ∷ 2 ∷ 3 ∷ 0 ∷ 0 ∷ 0 ∷ 1 ∷ 0 ∷ 0 ∷ 0 ∷ 0 ∷ 0 ∷ 0 ∷ 0 ∷ 0 ∷ 0 ∷ 0 ∷ 0 ∷ 0 ∷ 0 ∷
    0 ∷ 0 ∷ 0 ∷ 0 ∷ 0 ∷ 0 ∷ 0 ∷ 0 ∷ 0 ∷ 80 ∷ 33 ∷ 119 ∷ 9 ∷ 39 ∷ 116 ∷ 234 ∷ 92 ∷ 108 ∷ 198 ∷ 29 ∷ 199 ∷ 164 ∷ 255 ∷
    247 ∷ 204 ∷ 245 ∷ 139 ∷ 89 ∷ 1 ∷ 91 ∷ 99 ∷ 176 ∷ 191 ∷ 212 ∷ 155 ∷ 176 ∷ 140 ∷ 133 ∷ 68 ∷ 151 ∷ 90 ∷ 21 ∷ 171 ∷ []

abbrev pub audit_granted : List ℕ
audit_granted =
    1 ∷ 2 ∷ 0 ∷ 0 ∷ 0 ∷ 1 ∷ 0 ∷ 0 ∷ 0 ∷ 2 ∷ 3 ∷ 0 ∷ 0 ∷ 0 ∷ 0 ∷ 0 ∷ 0 ∷ 0 ∷ 80 ∷ 125 ∷ 0 ∷ 1 ∷ 111 ∷ 153 ∷ 16 ∷
    176 ∷ 134 ∷ 251 ∷ 195 ∷ 174 ∷ 3 ∷ 99 ∷ 93 ∷ 141 ∷ 251 ∷ 195 ∷ 217 ∷ 124 ∷ 136 ∷ 46 ∷ 130 ∷ 230 ∷ 246 ∷ 117 ∷
    94 ∷ 141 ∷ 135 ∷ 25 ∷ 101 ∷ 50 ∷ 211 ∷ 152 ∷ 195 ∷ 98 ∷ 105 ∷ 85 ∷ []

abbrev pub reset_3 : List ℕ
reset_3 =
    1 ∷ 1 ∷ 0 ∷ 0 ∷ 0 ∷ 1 ∷ 0 ∷ 0 ∷ 0 ∷ 3 ∷ 2 ∷ 0 ∷ 0 ∷ 0 ∷ 1 ∷ 0 ∷ 0 ∷ 195 ∷ 80 ∷ 0 ∷ 0 ∷ 0 ∷ 0 ∷ 0 ∷ 0 ∷ 0 ∷ 0 ∷
    0 ∷ 0 ∷ 0 ∷ 0 ∷ 0 ∷ 0 ∷ 0 ∷ 0 ∷ 0 ∷ 0 ∷ 80 ∷ 33 ∷ 79 ∷ 203 ∷ 96 ∷ 69 ∷ 104 ∷ 210 ∷ 76 ∷ 95 ∷ 166 ∷ 48 ∷ 247 ∷
    4 ∷ 216 ∷ 42 ∷ 35 ∷ 243 ∷ 83 ∷ 87 ∷ 239 ∷ 234 ∷ 180 ∷ 32 ∷ 101 ∷ 185 ∷ 221 ∷ 0 ∷ 157 ∷ 98 ∷ 252 ∷ 227 ∷ 202 ∷
    161 ∷ []

abbrev pub reset_granted : List ℕ
reset_granted =
    1 ∷ 2 ∷ 0 ∷ 0 ∷ 0 ∷ 1 ∷ 0 ∷ 0 ∷ 0 ∷ 3 ∷ 2 ∷ 0 ∷ 0 ∷ 0 ∷ 195 ∷ 80 ∷ 0 ∷ 0 ∷ 80 ∷ 125 ∷ 0 ∷ 1 ∷ 111 ∷ 153 ∷ 110 ∷
    51 ∷ 54 ∷ 154 ∷ 96 ∷ 19 ∷ 144 ∷ 91 ∷ 237 ∷ 74 ∷ 112 ∷ 254 ∷ 24 ∷ 228 ∷ 177 ∷ 172 ∷ 227 ∷ 6 ∷ 38 ∷ 108 ∷ 35 ∷
    174 ∷ 58 ∷ 150 ∷ 46 ∷ 243 ∷ 228 ∷ 66 ∷ 181 ∷ 77 ∷ 73 ∷ 228 ∷ []

abbrev pub done_3 : List ℕ
done_3 =
    1 ∷ 3 ∷ 0 ∷ 0 ∷ 0 ∷ 1 ∷ 0 ∷ 0 ∷ 0 ∷ 3 ∷ 87 ∷ 89 ∷ 197 ∷ 240 ∷ 2 ∷ 199 ∷ 51 ∷ 236 ∷ 120 ∷ 50 ∷ 194 ∷ 27 ∷ 41 ∷
    144 ∷ 235 ∷ 139 ∷ 109 ∷ 249 ∷ 68 ∷ 72 ∷ 21 ∷ 225 ∷ 146 ∷ 79 ∷ 222 ∷ 46 ∷ 226 ∷ 237 ∷ 149 ∷ 144 ∷ 241 ∷ 162 ∷ []

abbrev pub debit_1 : List ℕ
debit_1 =
    1 ∷ 16 ∷ 0 ∷ 0 ∷ 0 ∷ 1 ∷ 0 ∷ 0 ∷ 0 ∷ 1 ∷ 0 ∷ 0 ∷ 2 ∷ 38 ∷ 0 ∷ 1 ∷ []

abbrev pub mark_1 : List ℕ
mark_1 =
    1 ∷ 1 ∷ 0 ∷ 0 ∷ 0 ∷ 1 ∷ 0 ∷ 0 ∷ 0 ∷ 1 ∷ 0 ∷ 0 ∷ 2 ∷ 38 ∷ 0 ∷ 0 ∷ 2 ∷ 38 ∷ 0 ∷ 0 ∷ 193 ∷ 42 ∷ 0 ∷ 0 ∷ 80 ∷ 33 ∷
    0 ∷ 1 ∷ 111 ∷ 153 ∷ 0 ∷ 1 ∷ 5 ∷ 98 ∷ 227 ∷ 110 ∷ 101 ∷ 249 ∷ 97 ∷ 122 ∷ 7 ∷ 9 ∷ 22 ∷ 129 ∷ 34 ∷ 127 ∷ 75 ∷ 116 ∷
    86 ∷ 115 ∷ 231 ∷ 25 ∷ 55 ∷ 14 ∷ 129 ∷ 193 ∷ 187 ∷ 195 ∷ 207 ∷ 141 ∷ 203 ∷ 196 ∷ 13 ∷ 85 ∷ []

abbrev pub release_1 : List ℕ
release_1 =
    1 ∷ 17 ∷ 1 ∷ 1 ∷ 0 ∷ 0 ∷ 0 ∷ 1 ∷ 0 ∷ 0 ∷ 0 ∷ 1 ∷ 0 ∷ 0 ∷ 2 ∷ 38 ∷ 0 ∷ 0 ∷ 2 ∷ 38 ∷ 0 ∷ 0 ∷ 193 ∷ 42 ∷ 0 ∷ 0 ∷
    80 ∷ 33 ∷ 0 ∷ 1 ∷ 111 ∷ 153 ∷ 0 ∷ 1 ∷ 5 ∷ 98 ∷ 227 ∷ 110 ∷ 101 ∷ 249 ∷ 97 ∷ 122 ∷ 7 ∷ 9 ∷ 22 ∷ 129 ∷ 34 ∷ 127 ∷
    75 ∷ 116 ∷ 86 ∷ 115 ∷ 231 ∷ 25 ∷ 55 ∷ 14 ∷ 129 ∷ 193 ∷ 187 ∷ 195 ∷ 207 ∷ 141 ∷ 203 ∷ 196 ∷ 13 ∷ 85 ∷ []

abbrev pub refund_4 : List ℕ
refund_4 =
    1 ∷ 1 ∷ 0 ∷ 0 ∷ 0 ∷ 1 ∷ 0 ∷ 0 ∷ 0 ∷ 4 ∷ 4 ∷ 0 ∷ 0 ∷ 0 ∷ 1 ∷ 0 ∷ 0 ∷ 193 ∷ 42 ∷ 0 ∷ 0 ∷ 2 ∷ 38 ∷ 0 ∷ 0 ∷ 193 ∷
    42 ∷ 0 ∷ 0 ∷ 0 ∷ 0 ∷ 0 ∷ 0 ∷ 0 ∷ 1 ∷ 0 ∷ 0 ∷ 80 ∷ 33 ∷ 24 ∷ 169 ∷ 212 ∷ 130 ∷ 27 ∷ 233 ∷ 1 ∷ 245 ∷ 4 ∷ 124 ∷
    31 ∷ 90 ∷ 193 ∷ 181 ∷ 117 ∷ 116 ∷ 53 ∷ 187 ∷ 83 ∷ 97 ∷ 68 ∷ 20 ∷ 19 ∷ 216 ∷ 108 ∷ 246 ∷ 14 ∷ 2 ∷ 230 ∷ 204 ∷
    97 ∷ 237 ∷ []

abbrev pub refund_granted : List ℕ
refund_granted =
    1 ∷ 2 ∷ 0 ∷ 0 ∷ 0 ∷ 1 ∷ 0 ∷ 0 ∷ 0 ∷ 4 ∷ 4 ∷ 0 ∷ 0 ∷ 0 ∷ 193 ∷ 42 ∷ 0 ∷ 0 ∷ 0 ∷ 0 ∷ 0 ∷ 1 ∷ 111 ∷ 153 ∷ 28 ∷ 10 ∷
    205 ∷ 108 ∷ 243 ∷ 106 ∷ 140 ∷ 77 ∷ 156 ∷ 88 ∷ 251 ∷ 150 ∷ 242 ∷ 66 ∷ 186 ∷ 134 ∷ 223 ∷ 105 ∷ 104 ∷ 229 ∷ 171 ∷
    141 ∷ 78 ∷ 91 ∷ 56 ∷ 37 ∷ 48 ∷ 35 ∷ 49 ∷ 165 ∷ 240 ∷ 161 ∷ []

abbrev pub withdraw_4 : List ℕ
withdraw_4 =
    1 ∷ 1 ∷ 0 ∷ 0 ∷ 0 ∷ 1 ∷ 0 ∷ 0 ∷ 0 ∷ 4 ∷ 5 ∷ 0 ∷ 0 ∷ 0 ∷ 1 ∷ 0 ∷ 0 ∷ 195 ∷ 80 ∷ 0 ∷ 0 ∷ 0 ∷ 0 ∷ 0 ∷ 0 ∷ 195 ∷
    80 ∷ 0 ∷ 0 ∷ 0 ∷ 0 ∷ 0 ∷ 0 ∷ 0 ∷ 0 ∷ 0 ∷ 0 ∷ 80 ∷ 33 ∷ 174 ∷ 50 ∷ 96 ∷ 31 ∷ 12 ∷ 142 ∷ 155 ∷ 117 ∷ 136 ∷ 119 ∷
    32 ∷ 137 ∷ 77 ∷ 58 ∷ 157 ∷ 139 ∷ 41 ∷ 218 ∷ 150 ∷ 237 ∷ 159 ∷ 237 ∷ 162 ∷ 21 ∷ 160 ∷ 2 ∷ 216 ∷ 228 ∷ 132 ∷ 13 ∷
    164 ∷ 221 ∷ []

abbrev pub withdraw_granted : List ℕ
withdraw_granted =
    1 ∷ 2 ∷ 0 ∷ 0 ∷ 0 ∷ 1 ∷ 0 ∷ 0 ∷ 0 ∷ 4 ∷ 5 ∷ 0 ∷ 0 ∷ 0 ∷ 195 ∷ 80 ∷ 0 ∷ 0 ∷ 0 ∷ 0 ∷ 0 ∷ 1 ∷ 111 ∷ 153 ∷ 107 ∷
    242 ∷ 52 ∷ 73 ∷ 191 ∷ 106 ∷ 169 ∷ 97 ∷ 193 ∷ 207 ∷ 242 ∷ 202 ∷ 222 ∷ 161 ∷ 213 ∷ 68 ∷ 173 ∷ 232 ∷ 41 ∷ 67 ∷
    136 ∷ 25 ∷ 23 ∷ 173 ∷ 103 ∷ 183 ∷ 78 ∷ 41 ∷ 162 ∷ 166 ∷ 216 ∷ 214 ∷ []

abbrev pub done_4 : List ℕ
done_4 =
    1 ∷ 3 ∷ 0 ∷ 0 ∷ 0 ∷ 1 ∷ 0 ∷ 0 ∷ 0 ∷ 4 ∷ 98 ∷ 249 ∷ 175 ∷ 170 ∷ 47 ∷ 182 ∷ 63 ∷ 247 ∷ 229 ∷ 216 ∷ 206 ∷ 184 ∷
    25 ∷ 198 ∷ 57 ∷ 163 ∷ 4 ∷ 11 ∷ 196 ∷ 4 ∷ 129 ∷ 187 ∷ 229 ∷ 239 ∷ 84 ∷ 107 ∷ 107 ∷ 73 ∷ 251 ∷ 121 ∷ 245 ∷ 166 ∷ []

abbrev pub reset_50001 : List ℕ
reset_50001 =
    1 ∷ 1 ∷ 0 ∷ 0 ∷ 0 ∷ 1 ∷ 0 ∷ 0 ∷ 0 ∷ 4 ∷ 2 ∷ 0 ∷ 0 ∷ 0 ∷ 1 ∷ 0 ∷ 0 ∷ 195 ∷ 81 ∷ 0 ∷ 0 ∷ 0 ∷ 0 ∷ 0 ∷ 0 ∷ 195 ∷
    80 ∷ 0 ∷ 0 ∷ 0 ∷ 0 ∷ 0 ∷ 0 ∷ 0 ∷ 0 ∷ 0 ∷ 0 ∷ 80 ∷ 33 ∷ 68 ∷ 22 ∷ 44 ∷ 34 ∷ 195 ∷ 229 ∷ 187 ∷ 48 ∷ 161 ∷ 0 ∷
    129 ∷ 135 ∷ 162 ∷ 11 ∷ 70 ∷ 109 ∷ 52 ∷ 182 ∷ 11 ∷ 206 ∷ 72 ∷ 237 ∷ 255 ∷ 130 ∷ 234 ∷ 181 ∷ 7 ∷ 163 ∷ 135 ∷ 189 ∷
    68 ∷ 255 ∷ []

abbrev pub no_funds_4 : List ℕ
no_funds_4 =
    1 ∷ 2 ∷ 0 ∷ 0 ∷ 0 ∷ 1 ∷ 0 ∷ 0 ∷ 0 ∷ 4 ∷ 2 ∷ 5 ∷ 0 ∷ 0 ∷ 195 ∷ 80 ∷ 0 ∷ 0 ∷ 0 ∷ 0 ∷ 0 ∷ 1 ∷ 111 ∷ 153 ∷ 74 ∷
    224 ∷ 202 ∷ 161 ∷ 142 ∷ 158 ∷ 119 ∷ 123 ∷ 239 ∷ 66 ∷ 161 ∷ 223 ∷ 69 ∷ 106 ∷ 186 ∷ 15 ∷ 167 ∷ 11 ∷ 104 ∷ 200 ∷
    193 ∷ 87 ∷ 23 ∷ 245 ∷ 127 ∷ 127 ∷ 1 ∷ 254 ∷ 208 ∷ 169 ∷ 20 ∷ 147 ∷ []

abbrev pub reset_5 : List ℕ
reset_5 =
    1 ∷ 1 ∷ 0 ∷ 0 ∷ 0 ∷ 1 ∷ 0 ∷ 0 ∷ 0 ∷ 5 ∷ 2 ∷ 0 ∷ 0 ∷ 0 ∷ 1 ∷ 0 ∷ 0 ∷ 0 ∷ 1 ∷ 0 ∷ 0 ∷ 0 ∷ 0 ∷ 0 ∷ 0 ∷ 195 ∷ 80 ∷
    0 ∷ 0 ∷ 0 ∷ 0 ∷ 0 ∷ 0 ∷ 0 ∷ 0 ∷ 0 ∷ 0 ∷ 80 ∷ 33 ∷ 134 ∷ 50 ∷ 182 ∷ 11 ∷ 47 ∷ 254 ∷ 57 ∷ 133 ∷ 106 ∷ 242 ∷ 140 ∷
    57 ∷ 205 ∷ 20 ∷ 140 ∷ 55 ∷ 129 ∷ 130 ∷ 238 ∷ 218 ∷ 9 ∷ 241 ∷ 205 ∷ 32 ∷ 88 ∷ 189 ∷ 211 ∷ 104 ∷ 84 ∷ 109 ∷ 37 ∷
    157 ∷ []

abbrev pub suspended_5 : List ℕ
suspended_5 =
    1 ∷ 2 ∷ 0 ∷ 0 ∷ 0 ∷ 1 ∷ 0 ∷ 0 ∷ 0 ∷ 5 ∷ 2 ∷ 4 ∷ 0 ∷ 0 ∷ 0 ∷ 0 ∷ 0 ∷ 0 ∷ 0 ∷ 0 ∷ 0 ∷ 1 ∷ 111 ∷ 153 ∷ 25 ∷ 175 ∷
    189 ∷ 224 ∷ 213 ∷ 200 ∷ 12 ∷ 208 ∷ 78 ∷ 194 ∷ 20 ∷ 14 ∷ 25 ∷ 236 ∷ 20 ∷ 243 ∷ 130 ∷ 129 ∷ 20 ∷ 21 ∷ 98 ∷ 106 ∷
    189 ∷ 200 ∷ 75 ∷ 237 ∷ 53 ∷ 168 ∷ 182 ∷ 187 ∷ 50 ∷ 161 ∷ []

abbrev pub debit_2 : List ℕ
debit_2 =
    1 ∷ 16 ∷ 0 ∷ 0 ∷ 0 ∷ 1 ∷ 0 ∷ 0 ∷ 0 ∷ 2 ∷ 0 ∷ 0 ∷ 2 ∷ 38 ∷ 0 ∷ 1 ∷ []

abbrev pub debit_3 : List ℕ
debit_3 =
    1 ∷ 16 ∷ 0 ∷ 0 ∷ 0 ∷ 1 ∷ 0 ∷ 0 ∷ 0 ∷ 3 ∷ 0 ∷ 0 ∷ 2 ∷ 38 ∷ 0 ∷ 1 ∷ []

abbrev pub mark_2 : List ℕ
mark_2 =
    1 ∷ 1 ∷ 0 ∷ 0 ∷ 0 ∷ 1 ∷ 0 ∷ 0 ∷ 0 ∷ 2 ∷ 0 ∷ 0 ∷ 2 ∷ 38 ∷ 0 ∷ 0 ∷ 4 ∷ 76 ∷ 0 ∷ 0 ∷ 191 ∷ 4 ∷ 0 ∷ 0 ∷ 80 ∷ 33 ∷
    0 ∷ 1 ∷ 111 ∷ 153 ∷ 0 ∷ 1 ∷ 164 ∷ 223 ∷ 194 ∷ 76 ∷ 130 ∷ 5 ∷ 236 ∷ 167 ∷ 102 ∷ 175 ∷ 171 ∷ 72 ∷ 1 ∷ 7 ∷ 72 ∷
    80 ∷ 255 ∷ 235 ∷ 156 ∷ 52 ∷ 124 ∷ 189 ∷ 244 ∷ 70 ∷ 48 ∷ 37 ∷ 191 ∷ 30 ∷ 37 ∷ 25 ∷ 170 ∷ 52 ∷ []

abbrev pub mark_3 : List ℕ
mark_3 =
    1 ∷ 1 ∷ 0 ∷ 0 ∷ 0 ∷ 1 ∷ 0 ∷ 0 ∷ 0 ∷ 3 ∷ 0 ∷ 0 ∷ 2 ∷ 38 ∷ 0 ∷ 0 ∷ 6 ∷ 114 ∷ 0 ∷ 0 ∷ 188 ∷ 222 ∷ 0 ∷ 0 ∷ 80 ∷ 33 ∷
    0 ∷ 1 ∷ 111 ∷ 153 ∷ 0 ∷ 1 ∷ 42 ∷ 131 ∷ 221 ∷ 113 ∷ 169 ∷ 79 ∷ 214 ∷ 149 ∷ 106 ∷ 121 ∷ 171 ∷ 148 ∷ 71 ∷ 53 ∷
    144 ∷ 254 ∷ 163 ∷ 138 ∷ 126 ∷ 81 ∷ 225 ∷ 217 ∷ 130 ∷ 5 ∷ 52 ∷ 74 ∷ 143 ∷ 209 ∷ 126 ∷ 77 ∷ 186 ∷ 168 ∷ []

abbrev pub release_2 : List ℕ
release_2 =
    1 ∷ 17 ∷ 1 ∷ 1 ∷ 0 ∷ 0 ∷ 0 ∷ 1 ∷ 0 ∷ 0 ∷ 0 ∷ 2 ∷ 0 ∷ 0 ∷ 2 ∷ 38 ∷ 0 ∷ 0 ∷ 4 ∷ 76 ∷ 0 ∷ 0 ∷ 191 ∷ 4 ∷ 0 ∷ 0 ∷
    80 ∷ 33 ∷ 0 ∷ 1 ∷ 111 ∷ 153 ∷ 0 ∷ 1 ∷ 164 ∷ 223 ∷ 194 ∷ 76 ∷ 130 ∷ 5 ∷ 236 ∷ 167 ∷ 102 ∷ 175 ∷ 171 ∷ 72 ∷ 1 ∷
    7 ∷ 72 ∷ 80 ∷ 255 ∷ 235 ∷ 156 ∷ 52 ∷ 124 ∷ 189 ∷ 244 ∷ 70 ∷ 48 ∷ 37 ∷ 191 ∷ 30 ∷ 37 ∷ 25 ∷ 170 ∷ 52 ∷ []

abbrev pub release_3 : List ℕ
release_3 =
    1 ∷ 17 ∷ 1 ∷ 1 ∷ 0 ∷ 0 ∷ 0 ∷ 1 ∷ 0 ∷ 0 ∷ 0 ∷ 3 ∷ 0 ∷ 0 ∷ 2 ∷ 38 ∷ 0 ∷ 0 ∷ 6 ∷ 114 ∷ 0 ∷ 0 ∷ 188 ∷ 222 ∷ 0 ∷ 0 ∷
    80 ∷ 33 ∷ 0 ∷ 1 ∷ 111 ∷ 153 ∷ 0 ∷ 1 ∷ 42 ∷ 131 ∷ 221 ∷ 113 ∷ 169 ∷ 79 ∷ 214 ∷ 149 ∷ 106 ∷ 121 ∷ 171 ∷ 148 ∷ 71 ∷
    53 ∷ 144 ∷ 254 ∷ 163 ∷ 138 ∷ 126 ∷ 81 ∷ 225 ∷ 217 ∷ 130 ∷ 5 ∷ 52 ∷ 74 ∷ 143 ∷ 209 ∷ 126 ∷ 77 ∷ 186 ∷ 168 ∷ []

abbrev pub debit_other : List ℕ
debit_other =
    1 ∷ 16 ∷ 0 ∷ 0 ∷ 0 ∷ 2 ∷ 0 ∷ 0 ∷ 0 ∷ 2 ∷ 0 ∷ 0 ∷ 2 ∷ 38 ∷ 0 ∷ 1 ∷ []

abbrev pub first_steps : List Step
first_steps =
    record { event = ev.Day (pos 20513); text = []; reply = r.Day (pos 20513) }
    ∷ record { event = ev.Rates; text = rates1; reply = r.Rates 2 2 }
    ∷ record { event = ev.On Centre; text = []; reply = r.Up Centre 0 }
    ∷ record { event = ev.On Host; text = []; reply = r.Up Host 0 }
    ∷ record { event = ev.On Verifier; text = []; reply = r.Up Verifier 0 }
    ∷ record { event = ev.On (Device 1); text = []; reply = r.Up (Device 1) 0 }
    ∷ record { event = ev.Make 1 key1; text = []; reply = r.Made 1 }
    ∷ record { event = ev.Register 1 94105 key1; text = []; reply = r.Registered 1 }
    ∷ record { event = ev.Trust 1 key1; text = []; reply = r.Trusted 1 }
    ∷ record { event = ev.OpenCustomer 1; text = []; reply = r.Opened 1 }
    ∷ record { event = ev.Deposit 1 1 100000; text = []; reply = r.Deposited 1 1 false 100000 }
    ∷ record { event = ev.Ask 1 Enrol 1 0; text = []; reply = r.SentRequest 1 1 0 }
    ∷ record { event = ev.Deliver 0; text = []; reply = r.Ruled 1 1 Granted false 1 }
    ∷ record { event = ev.Deliver 1; text = []; reply = r.Applied 1 1 Granted }
    ∷ record { event = ev.Ask 1 Audit 0 0; text = []; reply = r.SentRequest 1 2 2 }
    ∷ record { event = ev.Deliver 2; text = []; reply = r.Ruled 1 2 Granted false 3 }
    ∷ record { event = ev.Deliver 3; text = []; reply = r.Applied 1 2 Granted }
    ∷ record { event = ev.Ask 1 Reset 0 50000; text = []; reply = r.SentRequest 1 3 4 }
    ∷ record { event = ev.Deliver 4; text = []; reply = r.Ruled 1 3 Granted false 5 }
    ∷ []

abbrev pub reply_lost_start : Ledger
reply_lost_start =
    e.Sent reset_granted
    ∷ e.Commit (c.Ruled 1 3 Granted reset_3)
    ∷ e.Sent reset_3
    ∷ e.Commit (c.Asked 1 3 reset_3)
    ∷ e.Commit (c.Applied 1 2 Granted)
    ∷ e.Sent audit_granted
    ∷ e.Commit (c.Ruled 1 2 Granted audit_2)
    ∷ e.Sent audit_2
    ∷ e.Commit (c.Asked 1 2 audit_2)
    ∷ e.Commit (c.Applied 1 1 Granted)
    ∷ e.Sent enrol_granted
    ∷ e.Commit (c.Ruled 1 1 Granted enrol_1)
    ∷ e.Sent enrol_1
    ∷ e.Commit (c.Asked 1 1 enrol_1)
    ∷ e.Commit (c.Deposited 1 1 100000)
    ∷ e.Commit (c.Opened 1)
    ∷ e.Commit (c.Trusted 1 key1)
    ∷ e.Commit (c.Registered 1 94105 key1)
    ∷ e.Commit (c.Made 1 key1)
    ∷ e.Up (Device 1) 0
    ∷ e.Up Verifier 0
    ∷ e.Up Host 0
    ∷ e.Up Centre 0
    ∷ e.Rates rates1
    ∷ e.Day (pos 20513)
    ∷ []

abbrev pub settling_steps : List Step
settling_steps =
    record { event = ev.Deliver 5; text = []; reply = r.Applied 1 3 Granted }
    ∷ record { event = ev.Ack 1; text = []; reply = r.SentDone 1 3 6 }
    ∷ record { event = ev.Deliver 6; text = []; reply = r.Settled 1 3 false }
    ∷ []

abbrev pub settled_ledger : Ledger
settled_ledger =
    e.Commit (c.Settled 1 3)
    ∷ e.Sent done_3
    ∷ e.Commit (c.Applied 1 3 Granted)
    ∷ reply_lost_start

abbrev pub ordinary_steps : List Step
ordinary_steps =
    record { event = ev.Order 1 1 1 25 1; text = []; reply = r.Ordered 1 550 }
    ∷ record { event = ev.Send 1; text = []; reply = r.SentDebit 1 7 }
    ∷ record { event = ev.Deliver 7; text = []; reply = r.Released 1 1 false 8 }
    ∷ record { event = ev.Deliver 8; text = []; reply = r.Held 1 }
    ∷ record { event = ev.Print 1; text = []; reply = r.Printed 1 }
    ∷ record { event = ev.Close 1; text = []; reply = r.Closed 1 }
    ∷ record { event = ev.ScanMsg 1 8; text = []; reply = r.Accepted 1 1 1 false }
    ∷ record {
      event = ev.Status 1;
      text = [];
      reply = r.Status 1 (record {
        phase = InService;
        ascending = 550;
        descending = 49450;
        refunded = 0;
        pieces = 1;
        number = 3;
        deadline = pos 20605;
        pending = None;
      });
    }
    ∷ record { event = ev.Balance 1; text = []; reply = r.Balance 1 50000 }
    ∷ record { event = ev.Reconcile 1; text = []; reply = r.Reconciled 1 50000 50000 None }
    ∷ []

abbrev pub ordinary_ledger : Ledger
ordinary_ledger =
    e.Commit (c.Accepted 1 1 1)
    ∷ e.Commit (c.Closed 1)
    ∷ e.Printed 1 mark_1
    ∷ e.Commit (c.Began 1)
    ∷ e.Commit (c.Held 1 mark_1)
    ∷ e.Sent release_1
    ∷ e.Released 1 1 mark_1
    ∷ e.Commit (c.Debited 1 1 550 1 (pos 20513) 1)
    ∷ e.Sent debit_1
    ∷ e.Commit (c.Ordered 1 1 1 550 1)
    ∷ settled_ledger

abbrev pub lost_steps : List Step
lost_steps =
    record { event = ev.Reconcile 1; text = []; reply = r.Reconciled 1 0 0 (Some (Reset, 50000)) }
    ∷ record { event = ev.Resend 1; text = []; reply = r.SentRequest 1 3 6 }
    ∷ record { event = ev.Deliver 6; text = []; reply = r.Ruled 1 3 Granted true 7 }
    ∷ record { event = ev.Deliver 7; text = []; reply = r.Applied 1 3 Granted }
    ∷ record { event = ev.Deliver 5; text = []; reply = r.DevRefused 1 no.NothingPending }
    ∷ record { event = ev.Reconcile 1; text = []; reply = r.Reconciled 1 50000 0 (Some (Reset, 50000)) }
    ∷ record { event = ev.Ack 1; text = []; reply = r.SentDone 1 3 8 }
    ∷ record { event = ev.Deliver 8; text = []; reply = r.Settled 1 3 false }
    ∷ record { event = ev.Deliver 8; text = []; reply = r.Settled 1 3 true }
    ∷ record { event = ev.Reconcile 1; text = []; reply = r.Reconciled 1 50000 50000 None }
    ∷ []

abbrev pub lost_ledger : Ledger
lost_ledger =
    e.Commit (c.Settled 1 3)
    ∷ e.Sent done_3
    ∷ e.Commit (c.Applied 1 3 Granted)
    ∷ e.Sent reset_granted
    ∷ e.Sent reset_3
    ∷ reply_lost_start

abbrev pub refund_steps : List Step
refund_steps =
    record { event = ev.Debit 1 1 550 1; text = []; reply = r.Marked 1 1 false mark_1 }
    ∷ record { event = ev.Ask 1 Refund 0 0; text = []; reply = r.SentRequest 1 4 7 }
    ∷ record { event = ev.Debit 1 2 550 1; text = []; reply = r.DevRefused 1 (no.Frozen Refund) }
    ∷ record { event = ev.Cut Centre 5 300 0; text = []; reply = r.CutSet Centre }
    ∷ record { event = ev.Deliver 7; text = []; reply = r.Power Centre }
    ∷ record { event = ev.On Centre; text = []; reply = r.Up Centre 8 }
    ∷ record { event = ev.Resend 1; text = []; reply = r.SentRequest 1 4 8 }
    ∷ record { event = ev.Deliver 8; text = []; reply = r.Ruled 1 4 Granted true 9 }
    ∷ record { event = ev.Deliver 9; text = []; reply = r.Applied 1 4 Granted }
    ∷ record { event = ev.Balance 1; text = []; reply = r.Balance 1 99450 }
    ∷ record {
      event = ev.Status 1;
      text = [];
      reply = r.Status 1 (record {
        phase = InService;
        ascending = 550;
        descending = 0;
        refunded = 49450;
        pieces = 1;
        number = 4;
        deadline = pos 20605;
        pending = None;
      });
    }
    ∷ []

abbrev pub refund_ledger : Ledger
refund_ledger =
    e.Commit (c.Applied 1 4 Granted)
    ∷ e.Sent refund_granted
    ∷ e.Sent refund_4
    ∷ e.Up Centre 8
    ∷ e.Torn Centre (c.Ruled 1 4 Granted refund_4)
    ∷ e.Sent refund_4
    ∷ e.Commit (c.Asked 1 4 refund_4)
    ∷ e.Released 1 1 mark_1
    ∷ e.Commit (c.Debited 1 1 550 1 (pos 20513) 1)
    ∷ settled_ledger

abbrev pub withdrawal_steps : List Step
withdrawal_steps =
    record { event = ev.Ask 1 Withdraw 0 0; text = []; reply = r.SentRequest 1 4 7 }
    ∷ record { event = ev.Deliver 7; text = []; reply = r.Ruled 1 4 Granted false 8 }
    ∷ record { event = ev.Deliver 8; text = []; reply = r.Applied 1 4 Granted }
    ∷ record { event = ev.Balance 1; text = []; reply = r.Balance 1 100000 }
    ∷ record { event = ev.Reconcile 1; text = []; reply = r.Reconciled 1 0 50000 (Some (Withdraw, 50000)) }
    ∷ record { event = ev.Debit 1 1 550 1; text = []; reply = r.DevRefused 1 (no.Phase Withdrawn) }
    ∷ record { event = ev.Ack 1; text = []; reply = r.SentDone 1 4 9 }
    ∷ []

abbrev pub withdrawal_ledger : Ledger
withdrawal_ledger =
    e.Sent done_4
    ∷ e.Commit (c.Applied 1 4 Granted)
    ∷ e.Sent withdraw_granted
    ∷ e.Commit (c.Ruled 1 4 Granted withdraw_4)
    ∷ e.Sent withdraw_4
    ∷ e.Commit (c.Asked 1 4 withdraw_4)
    ∷ settled_ledger

abbrev pub funds_steps : List Step
funds_steps =
    record { event = ev.Ask 1 Reset 0 50001; text = []; reply = r.SentRequest 1 4 7 }
    ∷ record { event = ev.Ask 1 Audit 0 0; text = []; reply = r.DevRefused 1 (no.Busy Reset) }
    ∷ record { event = ev.Deliver 5; text = []; reply = r.DevRefused 1 (no.Stale 4) }
    ∷ record { event = ev.Deliver 7; text = []; reply = r.Ruled 1 4 NoFunds false 8 }
    ∷ record { event = ev.Deliver 8; text = []; reply = r.Applied 1 4 NoFunds }
    ∷ record { event = ev.Flag 1 true; text = []; reply = r.Flagged 1 true }
    ∷ record { event = ev.Ask 1 Reset 0 1; text = []; reply = r.SentRequest 1 5 9 }
    ∷ record { event = ev.Deliver 9; text = []; reply = r.Ruled 1 5 Suspended false 10 }
    ∷ record { event = ev.Deliver 7; text = []; reply = r.CentreRefused (not_c.Old 5) }
    ∷ []

abbrev pub funds_ledger : Ledger
funds_ledger =
    e.Sent suspended_5
    ∷ e.Commit (c.Ruled 1 5 Suspended reset_5)
    ∷ e.Sent reset_5
    ∷ e.Commit (c.Asked 1 5 reset_5)
    ∷ e.Commit (c.Flagged 1 true)
    ∷ e.Commit (c.Applied 1 4 NoFunds)
    ∷ e.Sent no_funds_4
    ∷ e.Commit (c.Ruled 1 4 NoFunds reset_50001)
    ∷ e.Sent reset_50001
    ∷ e.Commit (c.Asked 1 4 reset_50001)
    ∷ settled_ledger

abbrev pub refusals_steps : List Step
refusals_steps =
    record { event = ev.Deposit 1 1 100000; text = []; reply = r.Deposited 1 1 true 100000 }
    ∷ record { event = ev.Deposit 1 1 5; text = []; reply = r.CentreRefused (not_c.Conflict 100000) }
    ∷ record { event = ev.Deposit 1 3 5; text = []; reply = r.CentreRefused (not_c.WrongReceipt 1) }
    ∷ record { event = ev.Deposit 1 2 0; text = []; reply = r.CentreRefused (not_c.BadAmount 0) }
    ∷ record { event = ev.Deposit 2 1 5; text = []; reply = r.CentreRefused (not_c.UnknownCustomer 2) }
    ∷ record { event = ev.OpenCustomer 1; text = []; reply = r.CentreRefused not_c.Known }
    ∷ record { event = ev.Make 1 key1; text = []; reply = r.DevRefused 1 no.Made }
    ∷ record { event = ev.Send 1; text = []; reply = r.HostRefused not_h.NoJob }
    ∷ record { event = ev.Order 1 1 3 25 1; text = []; reply = r.HostRefused (not_h.Rate NoClass) }
    ∷ record { event = ev.Order 1 1 1 25 1; text = []; reply = r.Ordered 1 550 }
    ∷ record { event = ev.Print 1; text = []; reply = r.HostRefused (not_h.State js.Ordered) }
    ∷ record { event = ev.Order 1 2 1 25 1; text = []; reply = r.HostRefused (not_h.OpenJob 1) }
    ∷ record { event = ev.Give Host (1 ∷ 17 ∷ []); text = []; reply = r.HostRefused (not_h.Unread unread.Length) }
    ∷ record { event = ev.Give Centre []; text = []; reply = r.CentreRefused (not_c.Unread unread.Length) }
    ∷ record { event = ev.Give Centre (3 ∷ 1 ∷ []); text = []; reply = r.CentreRefused (not_c.Unread unread.Version) }
    ∷ record { event = ev.Give Centre (1 ∷ 99 ∷ []); text = []; reply = r.CentreRefused (not_c.Unread unread.Tag) }
    ∷ record { event = ev.Give (Device 1) debit_other; text = []; reply = r.DevRefused 1 (no.WrongDevice 2) }
    ∷ record { event = ev.Give (Device 1) debit_2; text = []; reply = r.DevRefused 1 (no.WrongPiece 0) }
    ∷ []

abbrev pub refusals_ledger : Ledger
refusals_ledger =
    e.Commit (c.Ordered 1 1 1 550 1)
    ∷ settled_ledger

abbrev pub scans_steps : List Step
scans_steps =
    record { event = ev.Give (Device 1) debit_2; text = []; reply = r.Released 1 2 false 9 }
    ∷ record { event = ev.Give (Device 1) debit_2; text = []; reply = r.Released 1 2 true 10 }
    ∷ record { event = ev.Give (Device 1) debit_3; text = []; reply = r.Released 1 3 false 11 }
    ∷ record { event = ev.ScanMsg 2 8; text = []; reply = r.ScanRefused (not_v.Duplicate 1) }
    ∷ record { event = ev.ScanMsg 1 8; text = []; reply = r.Accepted 1 1 1 true }
    ∷ record { event = ev.Day (pos 20512); text = []; reply = r.Day (pos 20512) }
    ∷ record { event = ev.ScanMsg 3 9; text = []; reply = r.ScanRefused (not_v.Future (pos 20513)) }
    ∷ record { event = ev.Day (pos 20543); text = []; reply = r.Day (pos 20543) }
    ∷ record { event = ev.ScanMsg 3 9; text = []; reply = r.Accepted 1 2 3 false }
    ∷ record { event = ev.Day (pos 20544); text = []; reply = r.Day (pos 20544) }
    ∷ record { event = ev.ScanMsg 4 11; text = []; reply = r.ScanRefused (not_v.TooOld (pos 20513)) }
    ∷ record { event = ev.ScanMsg 4 0; text = []; reply = r.ScanRefused (not_v.Unread (mark_fault.Length 69)) }
    ∷ record { event = ev.Order 1 1 1 25 1; text = []; reply = r.HostRefused (not_h.Used 1) }
    ∷ []

abbrev pub scans_ledger : Ledger
scans_ledger =
    e.Day (pos 20544)
    ∷ e.Commit (c.Accepted 1 2 3)
    ∷ e.Day (pos 20543)
    ∷ e.Day (pos 20512)
    ∷ e.Sent release_3
    ∷ e.Released 1 3 mark_3
    ∷ e.Commit (c.Debited 1 3 550 1 (pos 20513) 1)
    ∷ e.Sent release_2
    ∷ e.Released 1 2 mark_2
    ∷ e.Sent release_2
    ∷ e.Released 1 2 mark_2
    ∷ e.Commit (c.Debited 1 2 550 1 (pos 20513) 1)
    ∷ ordinary_ledger

abbrev pub checks_steps : List Step
checks_steps =
    record { event = ev.Status 1; text = []; reply = r.NoDay }
    ∷ record { event = ev.Day (pos 20513); text = []; reply = r.Day (pos 20513) }
    ∷ record { event = ev.Status 1; text = []; reply = r.OffNode (Device 1) }
    ∷ record { event = ev.On (Device 1); text = []; reply = r.Up (Device 1) 0 }
    ∷ record { event = ev.On (Device 1); text = []; reply = r.OnAlready (Device 1) }
    ∷ record { event = ev.Status 1; text = []; reply = r.DevRefused 1 no.Blank }
    ∷ record { event = ev.Deliver 0; text = []; reply = r.NoMessage 0 }
    ∷ record { event = ev.Reconcile 1; text = []; reply = r.OffNode Centre }
    ∷ record { event = ev.Off (Device 1); text = []; reply = r.Down (Device 1) }
    ∷ record { event = ev.Off (Device 1); text = []; reply = r.OffNode (Device 1) }
    ∷ []

abbrev pub checks_ledger : Ledger
checks_ledger =
    e.Down (Device 1)
    ∷ e.Up (Device 1) 0
    ∷ e.Day (pos 20513)
    ∷ []
