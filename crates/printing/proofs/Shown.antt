-- What is printed into a line, by the tests of the code: nothing where it may not fit, else the text for success or for a refusal. Assumes nothing.
use Prim.Native.Nat.{ℕ, ◌+◌, ◌*◌, ◌-◌, ◌/◌, ◌≤◌, ◌<◌}
use mathlib.Core.Path.{◌≡◌, refl, sym, ◌∙◌}
use mathlib.Core.Bool.{Bool, true, false, ◌&&◌}
use mathlib.Core.List.{List, [], ◌++◌}
use native.Mathlib.Omega.{arith}
use borrow.Author.Tests.{le-leb, lt-leb, leb-true, leb-false, eq-eqb, ne_eqb}
use lib.Dec.{leb}
use lib.ListN.{length, take, drop}
use Rattle.paper.specs.Calls.{Compiled}
use Rattle.paper.specs.Programs.{ok_text, refused_text, answer_text}
use Rattle.printing.specs.Lines.{Put, answer, fits, shown, Printed}
use Rattle.printing.proofs.Puts.{put-none, put_whole, put-long, put-within}

both : (a b : Bool) → (a && b) ≡ true → (a ≡ true) × (b ≡ true)
both true b h = (refl, h)
both false true h = (h, refl)
both false false h = (h, h)

second-no : (a : Bool) → (a && false) ≡ false
second-no true = refl
second-no false = refl

module _ (size held room : ℕ) where
  pub fits-held : held < size → false ≡ fits size held room
  unfolding fits
  fits-held h = rw (lt-leb size held h)

  pub fits-short : room < 60 → false ≡ fits size held room
  unfolding fits
  fits-short h = rw (lt-leb (60 + 2 * size) room (omega arith)) (sym (second-no (leb size held)))

  pub fits-half : size ≤ held → 60 ≤ room → leb size ((room - 60) / 2) ≡ fits size held room
  unfolding fits
  fits-half h k = rw (le-leb size held h) (half (leb size ((room - 60) / 2)) refl)
    where
      half : (b : Bool) → leb size ((room - 60) / 2) ≡ b → leb size ((room - 60) / 2) ≡ leb (60 + 2 * size) room
      half true e = e ∙ sym (le-leb (60 + 2 * size) room (omega (arith, leb-true size ((room - 60) / 2) e)))
      half false e = e ∙ sym (lt-leb (60 + 2 * size) room (omega (arith, leb-false size ((room - 60) / 2) e)))

  -- what a table that fits has, and the line for it
  pub fits_both : fits size held room ≡ true → (size ≤ held) × (60 + 2 * size ≤ room)
  unfolding fits
  fits_both e =
      let b = both (leb size held) (leb (60 + 2 * size) room) e in
      (leb-true size held b.0, leb-true (60 + 2 * size) room b.1)

  -- what fits: a caller's numbers
  pub fits_by : size ≤ held → 60 + 2 * size ≤ room → fits size held room ≡ true
  unfolding fits
  fits_by h k = rw (le-leb size held h, le-leb (60 + 2 * size) room k)

printed-by : {c : Compiled} {line after : List ℕ} {r : ℕ} → Put line after 0 (shown c (length line)) r → Printed c line after r
printed-by p = record { put = p; within = put-within p; counted = put-long p }

module _ (number place states size : ℕ) (table : List ℕ) where
  pub shown-none : (line : List ℕ) → fits size (length table) (length line) ≡ false → Printed (answer number place states size table) line line 0
  unfolding shown
  shown-none line e = printed-by (rw e (put-none line 0))

  module _ {line after : List ℕ} {r : ℕ} (e : fits size (length table) (length line) ≡ true) where
    pub shown_ok : number ≡ 0 → Put line after 0 (ok_text (answer 0 0 states size table)) r → Printed (answer number place states size table) line after r
    unfolding shown answer_text ok_text
    shown_ok n p = printed-by (rw (e, eq-eqb number 0 n) p)

    pub shown-refused : (number ≡ 0 → ⊥) → Put line after 0 (refused_text (answer number place 0 0 [])) r → Printed (answer number place states size table) line after r
    unfolding shown answer_text refused_text
    shown-refused n p = printed-by (rw (e, ne_eqb number 0 n) p)

-- for a caller: where the text fits, the first r bytes are the answer's text, and the others are as they were
pub printed-text : {c : Compiled} {line after : List ℕ} {r : ℕ} → fits c.size (length c.output) (length line) ≡ true → Printed c line after r
    → (r ≡ length (answer_text c)) × ((take r after ≡ answer_text c) × (after ≡ answer_text c ++ drop (length (answer_text c)) line))
unfolding shown
printed-text {c} {line} {after} {r} e p =
    let q : Put line after 0 (answer_text c) r = rw e at p.put in
    (omega (arith, q.place), (q.done, put_whole q))

-- the working slice of what a compile answered is not looked at
pub answer-text : (c : Compiled) → answer_text (answer c.number c.place c.states c.size c.output) ≡ answer_text c
unfolding answer_text ok_text refused_text
answer-text c = refl

-- the contract admits one outcome
pub printed-one : {c : Compiled} {line after after' : List ℕ} {r r' : ℕ} → Printed c line after r → Printed c line after' r' → (r ≡ r') × (after ≡ after')
printed-one p q = (omega (arith, p.put.place, q.put.place), put_whole p.put ∙ sym (put_whole q.put))
