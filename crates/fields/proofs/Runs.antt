-- A run of writes is one write of all its bits: what is written stands behind what stood before, and nothing behind it changes.
-- Assumes nothing.
use mathlib.Core.Path.{◌≡◌, refl, sym, ap, ◌∙◌}
use mathlib.Core.List.{List, [], ◌++◌, append_assoc, append-nil}
use Prim.Native.Nat.{ℕ, ◌+◌, ◌*◌, ◌-◌, ◌≤◌}
use native.Mathlib.Omega.{arith}
use lib.ListN.{length, take, drop, length-append}
use lib.Seq.{paste, take-paste, drop-paste, take-length, drop-drop}
use Rattle.paper.specs.Table.{bits}
use Rattle.paper.specs.IsTable.{bits_of}
use Rattle.fields.specs.Runs.{Appended, Puts}
use Rattle.fields.specs.declared.FieldWriter.{FieldWriter}
use Rattle.fields.proofs.Bits.{bits-length, bits_of-length}

-- a field that is pasted behind what is written
pub put-done : (d e : List ℕ) (bit w v : ℕ) → bit + w ≤ 8 * length d → bits_of e ≡ paste (bits_of d) bit (bits w v) w → Appended d e bit (bits w v) (bit + w)
put-done d e bit w v h q =
    let hb : bit ≤ length (bits_of d) = rw bits_of-length (omega arith) in
    let hw : w ≤ length (bits w v) = rw bits-length (omega arith) in
    let t : take w (bits w v) ≡ bits w v = ap (λ (n : ℕ). take n (bits w v)) (sym (bits-length w v)) ∙ take-length (bits w v) in
    record {
      place = omega (arith, bits-length w v);
      done = ap (take (bit + w)) q ∙ take-paste (bits_of d) bit (bits w v) w hb hw ∙ ap (λ (x : List ℕ). take bit (bits_of d) ++ x) t;
      rest = ap (drop (bit + w)) q ∙ drop-paste (bits_of d) bit (bits w v) w hb hw;
    }

-- two runs of writes, one after the other, are one
pub appended_then : (d e f : List ℕ) (a b c : ℕ) (fs gs : List ℕ) → Appended d e a fs b → Appended e f b gs c → Appended d f a (fs ++ gs) c
appended_then d e f a b c fs gs p q =
    let l : length (fs ++ gs) ≡ length fs + length gs = length-append fs gs in
    let pe = p.place in
    let qe = q.place in
    let k : b + (c - b) ≡ c = omega arith in
    record {
      place = omega arith;
      done = q.done ∙ ap (λ (x : List ℕ). x ++ gs) p.done ∙ append_assoc (take a (bits_of d)) fs gs;
      rest = q.rest ∙ ap (λ (n : ℕ). drop n (bits_of e)) (sym k) ∙ sym (drop-drop (c - b) b (bits_of e)) ∙ ap (drop (c - b)) p.rest ∙ drop-drop (c - b) b (bits_of d) ∙ ap (λ (n : ℕ). drop n (bits_of d)) k;
    }

pub appended-none : (d : List ℕ) (a : ℕ) → Appended d d a [] a
appended-none d a = record { place = omega arith; done = sym (append-nil (take a (bits_of d))); rest = refl }

pub puts_then : {u v w : FieldWriter} {fs gs : List ℕ} {n m : ℕ} → Puts u v fs n → Puts v w gs m → Puts u w (fs ++ gs) (n + m)
puts_then {u} {v} {w} {fs} {gs} p q =
    let e = p.ends in
    let f = q.ends in
    record {
      ends = omega arith;
      appended = appended_then u.out.now v.out.now w.out.now u.bit v.bit w.bit fs gs p.appended q.appended;
      same_length = q.same_length ∙ p.same_length;
      same_reference = q.same_reference ∙ p.same_reference;
    }

pub puts-none : (w : FieldWriter) → Puts w w [] 0
puts-none w = record { ends = omega arith; appended = appended-none w.out.now w.bit; same_length = refl; same_reference = refl }
