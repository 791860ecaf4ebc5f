-- Each event has its line: with which keyword it begins, that its bytes are above the space, so that its words determine a line,
-- and that they determine an event.
use Rattle.std.proofs.Common.{◌≡◌, ◌≢◌, ℕ, ℤ, ◌+◌, List, [], ◌∷◌, true, false, refl, sym, ap, ◌∙◌, subst, cond, codes, ◌<◌, arith, ◌++◌}
use Rattle.bench_base.specs.declared.{words.Kind.Kind, words.Node.Node, events.Event.Event, words.Kind.TheVariants.Enrol, words.Kind.TheVariants.Reset, words.Kind.TheVariants.Audit, words.Kind.TheVariants.Refund, words.Kind.TheVariants.Withdraw, words.Node.TheVariants.Device, words.Node.TheVariants.Centre, words.Node.TheVariants.Host, words.Node.TheVariants.Verifier}
use Rattle.bench_base.specs.Ranges.{IsDevice, IsNode, TakesBytes, IsAsk}
use Rattle.bench_base.specs.Events.{IsWholeEvent}
use Rattle.bench_base.specs.declared.events.Event.TheVariants as ev
use Rattle.script_words.specs.Words.{words_in, joined, device_word}
use Rattle.script_text.specs.declared.keyword.Keyword.{Keyword}
use Rattle.script_text.specs.Grammar.{AreWordsOf, words_of, ask_words, Spells, IsSkipped}
use Rattle.script_text.specs.Keywords.{keyword_word}
use Rattle.script_text.specs.Reading.{AreNoWords}
use Rattle.script_text.specs.declared.keyword.Keyword.TheVariants as kw
use Rattle.script_words.proofs.Splits.{ArePrinted, AreSolid-printed, HasFirst, words_in_joined, joined_words_in}
use Rattle.script_text.proofs.DayTexts.{date_of}
use Rattle.script_text.proofs.ReadBack.{same, at, first_byte, number_in, device_in, node_in, hex_in, byte_in, given_in, kind_in, date_in, IsIn, word_again, class_again, small_again, device_again, node_again, hex_again, byte_again, given_again, date_again, one_byte}
use Rattle.script_text.proofs.PrintedWords.{literal, word, class_word, customer, device, node, taker, digits, given, kind, asked, flag, date}

-- == by the first word ==

-- the keyword that a word is
abbrev keyword_in : List ℕ → Keyword
keyword_in w =
    cond (same w (codes "day")) kw.Day
    (cond (same w (codes "rates")) kw.Rates
    (cond (same w (codes "make")) kw.Make
    (cond (same w (codes "on")) kw.On
    (cond (same w (codes "off")) kw.Off
    (cond (same w (codes "cut")) kw.Cut
    (cond (same w (codes "debit")) kw.Debit
    (cond (same w (codes "ask")) kw.Ask
    (cond (same w (codes "resend")) kw.Resend
    (cond (same w (codes "ack")) kw.Ack
    (cond (same w (codes "status")) kw.Status
    (cond (same w (codes "register")) kw.Register
    (cond (same w (codes "customer")) kw.Customer
    (cond (same w (codes "deposit")) kw.Deposit
    (cond (same w (codes "suspend")) kw.Suspend
    (cond (same w (codes "resume")) kw.Resume
    (cond (same w (codes "balance")) kw.Balance
    (cond (same w (codes "deliver")) kw.Deliver
    (cond (same w (codes "give")) kw.Give
    (cond (same w (codes "order")) kw.Order
    (cond (same w (codes "send")) kw.Send
    (cond (same w (codes "print")) kw.Print
    (cond (same w (codes "close")) kw.Close
    (cond (same w (codes "trust")) kw.Trust
    (cond (same w (codes "scan")) kw.Scan
    (cond (same w (codes "reconcile")) kw.Reconcile
    kw.End)))))))))))))))))))))))))

keyword_in_word : (k : Keyword) → keyword_in (keyword_word k) ≡ k
keyword_in_word kw.Day = refl
keyword_in_word k = refl

-- the keyword with which an event's line begins
abbrev pub keyword_of : Event → Keyword
keyword_of (ev.Day t) = kw.Day
keyword_of ev.Rates = kw.Rates
keyword_of (ev.Make d key) = kw.Make
keyword_of (ev.On n) = kw.On
keyword_of (ev.Off n) = kw.Off
keyword_of (ev.Cut n calls keep byte) = kw.Cut
keyword_of (ev.Debit d piece postage class) = kw.Debit
keyword_of (ev.Ask d kind customer amount) = kw.Ask
keyword_of (ev.Resend d) = kw.Resend
keyword_of (ev.Ack d) = kw.Ack
keyword_of (ev.Status d) = kw.Status
keyword_of (ev.Register d origin key) = kw.Register
keyword_of (ev.OpenCustomer c) = kw.Customer
keyword_of (ev.Deposit c receipt amount) = kw.Deposit
keyword_of (ev.Flag c true) = kw.Suspend
keyword_of (ev.Flag c false) = kw.Resume
keyword_of (ev.Balance c) = kw.Balance
keyword_of (ev.Deliver k) = kw.Deliver
keyword_of (ev.Give n bytes) = kw.Give
keyword_of (ev.Order d piece class grams zone) = kw.Order
keyword_of (ev.Send j) = kw.Send
keyword_of (ev.Print j) = kw.Print
keyword_of (ev.Close j) = kw.Close
keyword_of (ev.Trust d key) = kw.Trust
keyword_of (ev.ScanMsg scan k) = kw.Scan
keyword_of (ev.ScanHex scan bytes) = kw.Scan
keyword_of (ev.Reconcile d) = kw.Reconcile
keyword_of ev.End = kw.End

abbrev pub first_word : List (List ℕ) → List ℕ
first_word [] = []
first_word (w ∷ ws) = w

pub begins : (e : Event) (ws : List (List ℕ)) → AreWordsOf e ws → first_word ws ≡ keyword_word (keyword_of e)
begins (ev.Day t) ws h = ap first_word h.2
begins (ev.Flag c true) ws h = ap first_word h
begins (ev.Flag c false) ws h = ap first_word h
begins e ws h = ap first_word h

-- a fact of each event that begins with the keyword
abbrev pub ForKeyword : (Event → Type 0) → Keyword → Type 0
ForKeyword P kw.Day = (t : ℤ) → P (ev.Day t)
ForKeyword P kw.Rates = P ev.Rates
ForKeyword P kw.Make = (d : ℕ) (key : List ℕ) → P (ev.Make d key)
ForKeyword P kw.On = (n : Node) → P (ev.On n)
ForKeyword P kw.Off = (n : Node) → P (ev.Off n)
ForKeyword P kw.Cut = (n : Node) (calls : ℕ) (keep : ℕ) (byte : ℕ) → P (ev.Cut n calls keep byte)
ForKeyword P kw.Debit = (d : ℕ) (piece : ℕ) (postage : ℕ) (class : ℕ) → P (ev.Debit d piece postage class)
ForKeyword P kw.Ask = (d : ℕ) (kind : Kind) (customer : ℕ) (amount : ℕ) → P (ev.Ask d kind customer amount)
ForKeyword P kw.Resend = (d : ℕ) → P (ev.Resend d)
ForKeyword P kw.Ack = (d : ℕ) → P (ev.Ack d)
ForKeyword P kw.Status = (d : ℕ) → P (ev.Status d)
ForKeyword P kw.Register = (d : ℕ) (origin : ℕ) (key : List ℕ) → P (ev.Register d origin key)
ForKeyword P kw.Customer = (c : ℕ) → P (ev.OpenCustomer c)
ForKeyword P kw.Deposit = (c : ℕ) (receipt : ℕ) (amount : ℕ) → P (ev.Deposit c receipt amount)
ForKeyword P kw.Suspend = (c : ℕ) → P (ev.Flag c true)
ForKeyword P kw.Resume = (c : ℕ) → P (ev.Flag c false)
ForKeyword P kw.Balance = (c : ℕ) → P (ev.Balance c)
ForKeyword P kw.Deliver = (k : ℕ) → P (ev.Deliver k)
ForKeyword P kw.Give = (n : Node) (bytes : List ℕ) → P (ev.Give n bytes)
ForKeyword P kw.Order = (d : ℕ) (piece : ℕ) (class : ℕ) (grams : ℕ) (zone : ℕ) → P (ev.Order d piece class grams zone)
ForKeyword P kw.Send = (j : ℕ) → P (ev.Send j)
ForKeyword P kw.Print = (j : ℕ) → P (ev.Print j)
ForKeyword P kw.Close = (j : ℕ) → P (ev.Close j)
ForKeyword P kw.Trust = (d : ℕ) (key : List ℕ) → P (ev.Trust d key)
ForKeyword P kw.Scan = ((scan k : ℕ) → P (ev.ScanMsg scan k)) × ((scan : ℕ) (bytes : List ℕ) → P (ev.ScanHex scan bytes))
ForKeyword P kw.Reconcile = (d : ℕ) → P (ev.Reconcile d)
ForKeyword P kw.End = P ev.End

each : (P : Event → Type 0) (e : Event) → ForKeyword P (keyword_of e) → P e
each P (ev.Day t) h = h t
each P ev.Rates h = h
each P (ev.Make d key) h = h d key
each P (ev.On n) h = h n
each P (ev.Off n) h = h n
each P (ev.Cut n calls keep byte) h = h n calls keep byte
each P (ev.Debit d piece postage class) h = h d piece postage class
each P (ev.Ask d kind customer amount) h = h d kind customer amount
each P (ev.Resend d) h = h d
each P (ev.Ack d) h = h d
each P (ev.Status d) h = h d
each P (ev.Register d origin key) h = h d origin key
each P (ev.OpenCustomer c) h = h c
each P (ev.Deposit c receipt amount) h = h c receipt amount
each P (ev.Flag c true) h = h c
each P (ev.Flag c false) h = h c
each P (ev.Balance c) h = h c
each P (ev.Deliver k) h = h k
each P (ev.Give n bytes) h = h n bytes
each P (ev.Order d piece class grams zone) h = h d piece class grams zone
each P (ev.Send j) h = h j
each P (ev.Print j) h = h j
each P (ev.Close j) h = h j
each P (ev.Trust d key) h = h d key
each P (ev.ScanMsg scan k) h = h.0 scan k
each P (ev.ScanHex scan bytes) h = h.1 scan bytes
each P (ev.Reconcile d) h = h d
each P ev.End h = h

-- no event has the words, if none that begins with their keyword has them
pub no_event : (k : Keyword) (ws : List (List ℕ)) → ForKeyword (λ e. IsWholeEvent e → AreWordsOf e (keyword_word k ∷ ws) → ⊥) k → AreNoWords (keyword_word k ∷ ws)
no_event k ws h e whole are =
    let word : keyword_word k ≡ keyword_word (keyword_of e) = begins e (keyword_word k ∷ ws) are in
    let same_key : k ≡ keyword_of e = sym (keyword_in_word k) ∙ ap keyword_in word ∙ keyword_in_word (keyword_of e) in
    each (λ f. IsWholeEvent f → AreWordsOf f (keyword_word k ∷ ws) → ⊥) e (subst (ForKeyword (λ f. IsWholeEvent f → AreWordsOf f (keyword_word k ∷ ws) → ⊥)) same_key h) whole are

-- no event begins with the word
pub no_keyword : (w : List ℕ) (ws : List (List ℕ)) → ((k : Keyword) → w ≢ keyword_word k) → AreNoWords (w ∷ ws)
no_keyword w ws none e whole are = none (keyword_of e) (begins e (w ∷ ws) are)

-- == its bytes are above the space ==

-- the bytes of the words are above the space, and there are some words
abbrev pub AreSome : List (List ℕ) → Type 0
AreSome ws = HasFirst ws × ArePrinted ws

told : (e : Event) → IsWholeEvent e → AreSome (words_of e)
told (ev.Day t) h = (tt, (literal (codes "day") refl, tt))
told ev.Rates h = (tt, (literal (codes "rates") refl, tt))
told (ev.Make d key) h = (tt, (literal (codes "make") refl, (device d h.0, (digits key h.1.1, tt))))
told (ev.On n) h = (tt, (literal (codes "on") refl, (node n h, tt)))
told (ev.Off n) h = (tt, (literal (codes "off") refl, (node n h, tt)))
told (ev.Cut n calls keep byte) h = (tt, (literal (codes "cut") refl, (node n h.0, (word calls h.1, (word keep h.2, (digits (byte ∷ []) (one_byte byte h.3), tt))))))
told (ev.Debit d piece postage class) h = (tt, (literal (codes "debit") refl, (device d h.0, (word piece h.1, (word postage h.2, (class_word class h.3, tt))))))
told (ev.Ask d k c a) h = (tt, (literal (codes "ask") refl, (device d h.0, asked k c a h.1)))
told (ev.Resend d) h = (tt, (literal (codes "resend") refl, (device d h, tt)))
told (ev.Ack d) h = (tt, (literal (codes "ack") refl, (device d h, tt)))
told (ev.Status d) h = (tt, (literal (codes "status") refl, (device d h, tt)))
told (ev.Register d origin key) h = (tt, (literal (codes "register") refl, (device d h.0, (word origin h.1, (digits key h.2.1, tt)))))
told (ev.OpenCustomer c) h = (tt, (literal (codes "customer") refl, (customer c h, tt)))
told (ev.Deposit c receipt amount) h = (tt, (literal (codes "deposit") refl, (customer c h.0, (word receipt h.1, (word amount h.2, tt)))))
told (ev.Flag c suspended) h = (tt, (flag suspended, (customer c h, tt)))
told (ev.Balance c) h = (tt, (literal (codes "balance") refl, (customer c h, tt)))
told (ev.Deliver k) h = (tt, (literal (codes "deliver") refl, (word k h, tt)))
told (ev.Give n bytes) h = (tt, (literal (codes "give") refl, (taker n h.0, (given bytes h.1.1, tt))))
told (ev.Order d piece class grams zone) h = (tt, (literal (codes "order") refl, (device d h.0, (word piece h.1, (class_word class h.2, (word grams h.3, (word zone h.4, tt)))))))
told (ev.Send j) h = (tt, (literal (codes "send") refl, (word j h, tt)))
told (ev.Print j) h = (tt, (literal (codes "print") refl, (word j h, tt)))
told (ev.Close j) h = (tt, (literal (codes "close") refl, (word j h, tt)))
told (ev.Trust d key) h = (tt, (literal (codes "trust") refl, (device d h.0, (digits key h.1.1, tt))))
told (ev.ScanMsg scan k) h = (tt, (literal (codes "scan") refl, (word scan h.1, (literal (codes "msg") refl, (word k h.2, tt)))))
told (ev.ScanHex scan bytes) h = (tt, (literal (codes "scan") refl, (word scan h.1, (literal (codes "hex") refl, (given bytes h.2.1, tt)))))
told (ev.Reconcile d) h = (tt, (literal (codes "reconcile") refl, (device d h, tt)))
told ev.End h = (tt, (literal (codes "end") refl, tt))

pub all_some : (e : Event) (ws : List (List ℕ)) → IsWholeEvent e → AreWordsOf e ws → AreSome ws
all_some (ev.Day t) ws h are = subst AreSome (sym are.2) (tt, (literal (codes "day") refl, (date t are.0 are.1, tt)))
all_some e ws h are = subst AreSome (sym are) (told e h)

words_in_some_joined : (ws : List (List ℕ)) → AreSome ws → words_in (joined ws) ≡ ws
words_in_some_joined [] h = absurd h.0
words_in_some_joined (w ∷ ws) h = words_in_joined w ws (AreSolid-printed (w ∷ ws) h.1)

-- a line's words are the event's that it spells
pub words_spelled : (e : Event) (line : List ℕ) → IsWholeEvent e → Spells e line → AreWordsOf e (words_in line)
words_spelled e line whole s =
    let is = words_in_some_joined s.0 (all_some e s.0 whole s.1) in
    subst (AreWordsOf e) (sym (ap words_in s.2 ∙ is)) s.1

pub spelled : (e : Event) (line : List ℕ) → AreWordsOf e (words_in line) → Spells e line
spelled e line are = (words_in line, are, sym (joined_words_in line))

-- == read back ==

abbrev ask_in : Kind → ℕ → ℕ → Event
ask_in Enrol d n = ev.Ask d Enrol n 0
ask_in Reset d n = ev.Ask d Reset 0 n
ask_in kind d n = ev.Ask d kind 0 0

-- the event of these words
abbrev event_in : List (List ℕ) → Event
event_in ws =
    cond (same (at ws 0) (codes "day")) (ev.Day (date_in (at ws 1)))
    (cond (same (at ws 0) (codes "ask")) (ask_in (kind_in (at ws 2)) (device_in (at ws 1)) (number_in (at ws 3)))
    (cond (same (at ws 0) (codes "suspend")) (ev.Flag (number_in (at ws 1)) true)
    (cond (same (at ws 0) (codes "resume")) (ev.Flag (number_in (at ws 1)) false)
    (cond (same (at ws 0) (codes "scan"))
    (cond (same (at ws 2) (codes "msg")) (ev.ScanMsg (number_in (at ws 1)) (number_in (at ws 3))) (ev.ScanHex (number_in (at ws 1)) (given_in (at ws 3))))
    (cond (same (at ws 0) (codes "rates")) ev.Rates
    (cond (same (at ws 0) (codes "make")) (ev.Make (device_in (at ws 1)) (hex_in (at ws 2)))
    (cond (same (at ws 0) (codes "on")) (ev.On (node_in (at ws 1)))
    (cond (same (at ws 0) (codes "off")) (ev.Off (node_in (at ws 1)))
    (cond (same (at ws 0) (codes "cut")) (ev.Cut (node_in (at ws 1)) (number_in (at ws 2)) (number_in (at ws 3)) (byte_in (at ws 4)))
    (cond (same (at ws 0) (codes "debit")) (ev.Debit (device_in (at ws 1)) (number_in (at ws 2)) (number_in (at ws 3)) (number_in (at ws 4)))
    (cond (same (at ws 0) (codes "resend")) (ev.Resend (device_in (at ws 1)))
    (cond (same (at ws 0) (codes "ack")) (ev.Ack (device_in (at ws 1)))
    (cond (same (at ws 0) (codes "status")) (ev.Status (device_in (at ws 1)))
    (cond (same (at ws 0) (codes "register")) (ev.Register (device_in (at ws 1)) (number_in (at ws 2)) (hex_in (at ws 3)))
    (cond (same (at ws 0) (codes "customer")) (ev.OpenCustomer (number_in (at ws 1)))
    (cond (same (at ws 0) (codes "deposit")) (ev.Deposit (number_in (at ws 1)) (number_in (at ws 2)) (number_in (at ws 3)))
    (cond (same (at ws 0) (codes "balance")) (ev.Balance (number_in (at ws 1)))
    (cond (same (at ws 0) (codes "deliver")) (ev.Deliver (number_in (at ws 1)))
    (cond (same (at ws 0) (codes "give")) (ev.Give (node_in (at ws 1)) (given_in (at ws 2)))
    (cond (same (at ws 0) (codes "order")) (ev.Order (device_in (at ws 1)) (number_in (at ws 2)) (number_in (at ws 3)) (number_in (at ws 4)) (number_in (at ws 5)))
    (cond (same (at ws 0) (codes "send")) (ev.Send (number_in (at ws 1)))
    (cond (same (at ws 0) (codes "print")) (ev.Print (number_in (at ws 1)))
    (cond (same (at ws 0) (codes "close")) (ev.Close (number_in (at ws 1)))
    (cond (same (at ws 0) (codes "trust")) (ev.Trust (device_in (at ws 1)) (hex_in (at ws 2)))
    (cond (same (at ws 0) (codes "reconcile")) (ev.Reconcile (device_in (at ws 1)))
    ev.End)))))))))))))))))))))))))

pub node_is : (n : Node) → IsNode n → IsIn n
node_is (Device d) h = h
node_is Centre h = tt
node_is Host h = tt
node_is Verifier h = tt

taker_is : (n : Node) → TakesBytes n → IsIn n
taker_is (Device d) h = h
taker_is Centre h = tt
taker_is Host h = tt
taker_is Verifier h = absurd h

asked_again : (d : ℕ) (kind : Kind) (c a : ℕ) → IsDevice d → IsAsk kind c a → event_in (codes "ask" ∷ device_word d ∷ ask_words kind c a) ≡ ev.Ask d kind c a
asked_again d Enrol c a h part = let e = device_again d h in let n = word_again c part.0 in let z = part.1 in cc
asked_again d Reset c a h part = let e = device_again d h in let n = word_again a part.1 in let z = part.0 in cc
asked_again d Audit c a h part = let e = device_again d h in let y = part.0 in let z = part.1 in cc
asked_again d Refund c a h part = let e = device_again d h in let y = part.0 in let z = part.1 in cc
asked_again d Withdraw c a h part = let e = device_again d h in let y = part.0 in let z = part.1 in cc

event_again : (e : Event) (ws : List (List ℕ)) → IsWholeEvent e → AreWordsOf e ws → event_in ws ≡ e
event_again (ev.Day t) ws h are = ap event_in are.2 ∙ ap ev.Day (date_again t are.0 are.1)
event_again (ev.Ask d kind c a) ws h are = ap event_in are ∙ asked_again d kind c a h.0 h.1
event_again (ev.Flag c true) ws h are = ap event_in are ∙ ap (λ (n : ℕ). ev.Flag n true) (small_again c 64 (omega arith) h)
event_again (ev.Flag c false) ws h are = ap event_in are ∙ ap (λ (n : ℕ). ev.Flag n false) (small_again c 64 (omega arith) h)
event_again (ev.ScanMsg scan k) ws h are = let a = word_again scan h.1 in let b = word_again k h.2 in ap event_in are ∙ cc
event_again (ev.ScanHex scan bytes) ws h are = let a = word_again scan h.1 in let b = given_again bytes h.2.1 in ap event_in are ∙ cc
event_again ev.End ws h are = ap event_in are
event_again ev.Rates ws h are = ap event_in are
event_again (ev.Make d key) ws h are = let e0 = device_again d h.0 in let e1 = hex_again key h.1.1 in ap event_in are ∙ cc
event_again (ev.On n) ws h are = let e0 = node_again n (node_is n h) in ap event_in are ∙ cc
event_again (ev.Off n) ws h are = let e0 = node_again n (node_is n h) in ap event_in are ∙ cc
event_again (ev.Cut n calls keep byte) ws h are = let e0 = node_again n (node_is n h.0) in let e1 = word_again calls h.1 in let e2 = word_again keep h.2 in let e3 = byte_again byte h.3 in ap event_in are ∙ cc
event_again (ev.Debit d piece postage class) ws h are = let e0 = device_again d h.0 in let e1 = word_again piece h.1 in let e2 = word_again postage h.2 in let e3 = class_again class h.3 in ap event_in are ∙ cc
event_again (ev.Resend d) ws h are = let e0 = device_again d h in ap event_in are ∙ cc
event_again (ev.Ack d) ws h are = let e0 = device_again d h in ap event_in are ∙ cc
event_again (ev.Status d) ws h are = let e0 = device_again d h in ap event_in are ∙ cc
event_again (ev.Register d origin key) ws h are = let e0 = device_again d h.0 in let e1 = word_again origin h.1 in let e2 = hex_again key h.2.1 in ap event_in are ∙ cc
event_again (ev.OpenCustomer c) ws h are = let e0 = small_again c 64 (omega arith) h in ap event_in are ∙ cc
event_again (ev.Deposit c receipt amount) ws h are = let e0 = small_again c 64 (omega arith) h.0 in let e1 = word_again receipt h.1 in let e2 = word_again amount h.2 in ap event_in are ∙ cc
event_again (ev.Balance c) ws h are = let e0 = small_again c 64 (omega arith) h in ap event_in are ∙ cc
event_again (ev.Deliver k) ws h are = let e0 = word_again k h in ap event_in are ∙ cc
event_again (ev.Give n bytes) ws h are = let e0 = node_again n (taker_is n h.0) in let e1 = given_again bytes h.1.1 in ap event_in are ∙ cc
event_again (ev.Order d piece class grams zone) ws h are = let e0 = device_again d h.0 in let e1 = word_again piece h.1 in let e2 = class_again class h.2 in let e3 = word_again grams h.3 in let e4 = word_again zone h.4 in ap event_in are ∙ cc
event_again (ev.Send j) ws h are = let e0 = word_again j h in ap event_in are ∙ cc
event_again (ev.Print j) ws h are = let e0 = word_again j h in ap event_in are ∙ cc
event_again (ev.Close j) ws h are = let e0 = word_again j h in ap event_in are ∙ cc
event_again (ev.Trust d key) ws h are = let e0 = device_again d h.0 in let e1 = hex_again key h.1.1 in ap event_in are ∙ cc
event_again (ev.Reconcile d) ws h are = let e0 = device_again d h in ap event_in are ∙ cc

-- a line spells one whole event
pub one_event_of : (e f : Event) (line : List ℕ) → IsWholeEvent e → IsWholeEvent f → Spells e line → Spells f line → e ≡ f
one_event_of e f line u v s t =
    sym (event_again e (words_in line) u (words_spelled e line u s)) ∙ event_again f (words_in line) v (words_spelled f line v t)

-- each whole event has a line
pub each_event_of : (e : Event) → IsWholeEvent e → (line : List ℕ) × Spells e line
each_event_of (ev.Day t) h =
    let date = date_of t h.0 h.1 in
    let ws = words_of (ev.Day t) ++ date.0 ∷ [] in
    (joined ws, (ws, (date.0, date.1, refl), refl))
each_event_of e h = (joined (words_of e), (words_of e, refl, refl))

-- a keyword begins with a letter
letters : (k : Keyword) → 35 < first_byte (keyword_word k)
letters kw.Day = omega arith
letters k = omega arith

not_skipped : (k : Keyword) (ws : List (List ℕ)) (line : List ℕ) → first_word ws ≡ keyword_word k → line ≡ joined ws → IsSkipped line → ⊥
not_skipped k [] line first is skipped = omega (arith, letters k, ap (λ (w : List ℕ). first_byte w) first)
not_skipped k ([] ∷ ws) line first is skipped = omega (arith, letters k, ap (λ (w : List ℕ). first_byte w) first)
not_skipped k ((c ∷ w) ∷ ws) line first is skipped =
    let hash : c ≡ 35 = subst IsSkipped is skipped in omega (arith, letters k, ap (λ (v : List ℕ). first_byte v) first, hash)

-- no event's line is skipped
pub no_event_skipped : (e : Event) (line : List ℕ) → Spells e line → IsSkipped line → ⊥
no_event_skipped e line s skipped = not_skipped (keyword_of e) s.0 line (begins e s.0 s.1) s.2 skipped
