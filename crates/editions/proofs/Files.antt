-- What is printed for a file: a table is no longer than the output that holds it, so its text fits; and a file over 1,024 bytes is refused by No. 2 whatever
-- it holds, so what is printed for its first 1,025 bytes is printed for all of it. Assumes nothing.
use Rattle.std.proofs.Common.{rules, ◌≡◌, subst, ℕ, ◌+◌, ◌*◌, ◌<◌, ◌≤◌, Bool, true, false, cond, List, [], ◌++◌, length, take, replicate, refl, sym, ◌∙◌, arith, length-append, append-nil, ◌||◌}
use Rattle.std.specs.Prelude.{Option, None, Some, Result, Ok, Err, IfSome, OnOk}
use Rattle.std.specs.Io.KnownBytes.{Appends, Consumes, IsAtEnd}
use borrow.Author.Tests.{lt-ltb, ltb-true, ltb-false}
use lib.Dec.{ltb}
use Rattle.paper.specs.File.{Answer, refused, accepted}
use Rattle.paper.specs.Parse.{Parsed, parse}
use Rattle.paper.specs.Reaction.{Program, State}
use Rattle.paper.specs.Refusals.{Edition, most_bytes, reading, discovering}
use Rattle.paper.specs.Calls.{Compiled, output_bytes, work_bytes, cleared, compiled_states, compiled_program, compiled}
use Rattle.paper.specs.Programs.{answer_text}
use Rattle.printing.specs.Lines.{answer, Printed}
use Rattle.printing.proofs.Shown.{fits_by, printed-text, answer-text}
use Rattle.editions.specs.Texts.{text_of}

abbrev pub Holds : Compiled → Type 0
Holds c = c.size ≤ length c.output

states-hold : (p : Program) (a : Answer (List State)) (output work : List ℕ) → Holds (compiled_states p a output work)
states-hold p (refused n at) output work = omega arith
states-hold p (accepted all) output work = omega (arith, length-append {A = ℕ})

program-holds : (a : Answer Program) (output work : List ℕ) → Holds (compiled_program a output work)
program-holds (refused n at) output work = omega arith
program-holds (accepted p) output work = states-hold p (discovering p) output work

-- the table is held by the output
pub compiled-holds : (f : List ℕ → Parsed) (e : Edition) (file output work : List ℕ) → Holds (compiled f e file output work)
unfolding compiled
compiled-holds f e file output work = go (ltb (length output) output_bytes || ltb (length work) work_bytes)
  where
    go : (b : Bool) → Holds (cond b (record { number = 1; place = 0; states = 0; size = 0; output = output; work = work }) (compiled_program (reading f e file) output (cleared work)))
    go true = omega arith
    go false = program-holds (reading f e file) output (cleared work)

-- what stands at the front of a line with room for it
pub front-text : (c : Compiled) (line after : List ℕ) (n : ℕ) → Holds c → 60 + 2 * length c.output ≤ length line
    → Printed (answer c.number c.place c.states c.size c.output) line after n → take n after ≡ answer_text c
front-text c line after n h room p =
    (printed-text (fits_by c.size (length c.output) (length line) h (omega arith)) p).1.0 ∙ answer-text c

-- No. 2, whatever stands in the file
long : (f : List ℕ → Parsed) (e : Edition) (file : List ℕ) → most_bytes < length file → reading f e file ≡ refused 2 0
unfolding reading
long f e file h = rw (lt-ltb most_bytes (length file) h)

same_text : (e : Edition) (file more output work : List ℕ) → reading parse e file ≡ reading parse e more
    → answer_text (compiled parse e file output work) ≡ answer_text (compiled parse e more output work)
unfolding compiled
same_text e file more output work h = rw h

text_of-append : (e : Edition) (file rest : List ℕ) → most_bytes < length file → text_of e file ≡ text_of e (file ++ rest)
unfolding text_of
text_of-append e file rest h =
    same_text e file (file ++ rest) (replicate output_bytes 0) (replicate work_bytes 0)
    (long parse e file h ∙ sym (long parse e (file ++ rest) (omega (arith, length-append file rest))))

-- what is printed for a file of which 1,025 bytes were read at most
pub text_of-whole : (e : Edition) (file rest : List ℕ) → (length file < 1025 → rest ≡ []) → text_of e file ≡ text_of e (file ++ rest)
text_of-whole e file rest h = go (ltb (length file) 1025) refl
  where
    go : (b : Bool) → ltb (length file) 1025 ≡ b → text_of e file ≡ text_of e (file ++ rest)
    go true t = rw (h (ltb-true (length file) 1025 t), append-nil file)
    go false t = text_of-append e file rest (omega (arith, ltb-false (length file) 1025 t))

-- the same of a reader whose bytes are known
known : (e : Edition) (left left' held held' : Option (List ℕ)) (file : List ℕ) → Consumes left left' file → (length file < 1025 → IsAtEnd left')
    → Appends held held' (text_of e file) → IfSome left (λ xs. Appends held held' (text_of e xs))
known e None left' held held' file c z p = search rules
known e (Some xs) None held held' file c z p = absurd c
known e (Some xs) (Some ys) held held' file c z p = subst (λ (l : List ℕ). Appends held held' (text_of e l)) (sym c) (subst (Appends held held') (text_of-whole e file ys z) p)

pub known-ok : {E : Type 0} (r : Result (Unit {0}) E) (e : Edition) (left left' held held' : Option (List ℕ)) (file : List ℕ) → Consumes left left' file
    → (length file < 1025 → IsAtEnd left') → OnOk r (Appends held held' (text_of e file)) → OnOk r (IfSome left (λ xs. Appends held held' (text_of e xs)))
known-ok (Ok u) e left left' held held' file c z p = known e left left' held held' file c z p
known-ok (Err x) e left left' held held' file c z p = search rules
