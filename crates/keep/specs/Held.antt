-- Names and parts of the job in numbers that can be held: what lies behind the end of the memory has no bytes. Assumes nothing.
use Rattle.std.specs.Prelude.{ℕ, ◌≤◌, ◌<◌, ◌^◌, min, ◌≡◌, refl, Bool, true, false, [], leb, length, take, drop}
use Rattle.std.proofs.Common.{arith, sym, ◌∙◌, length-drop, drop_of_length-le, take_all, leb-true, leb-false}
use Rattle.std.proofs.Math.Seq.{take-nil}
use Rattle.text.specs.Ascii.{Bytes}
use Rattle.spans.specs.Span.{◌⋯◌, bytes}
use Rattle.spans.specs.declared.span.Span.{Span}
use Rattle.names.specs.Name.{named, name_of}
use Rattle.names.specs.declared.name.Name.{Name}
use Rattle.nametable.specs.Table.{Stores}
use Rattle.jobindex.specs.declared.Span.{Span as Part}

abbrev pub held_span : Bytes → Span → Span
held_span mem s = min s.at (length mem) ⋯ min s.len (length mem)

abbrev pub held_name : Bytes → Name → Name
held_name mem n = named (held_span mem n.scope) n.sep (held_span mem n.word) n.form

abbrev pub held_part : Bytes → Part → Part
held_part job s = record { at = min s.at (length job); len = min s.len (length job) }

-- ---- laws: the bytes are the same

pub part_held : (s : Bytes) (a n : ℕ) → take (min n (length s)) (drop (min a (length s)) s) ≡ take n (drop a s)
part_held s a n = go (leb a (length s)) refl (leb n (length s)) refl
  where
    go : (b : Bool) → leb a (length s) ≡ b → (d : Bool) → leb n (length s) ≡ d → take (min n (length s)) (drop (min a (length s)) s) ≡ take n (drop a s)
    go true e true f =
        let p : min a (length s) ≡ a = omega (arith, leb-true a (length s) e) in
        let q : min n (length s) ≡ n = omega (arith, leb-true n (length s) f) in
        rw (p, q)
    go true e false f =
        let p : min a (length s) ≡ a = omega (arith, leb-true a (length s) e) in
        let q : min n (length s) ≡ length s = omega (arith, leb-false n (length s) f) in
        let l : length (drop a s) ≤ length s = omega (arith, length-drop a s) in
        let m : length (drop a s) ≤ n = omega (arith, length-drop a s, leb-false n (length s) f) in
        rw (p, q) (take_all (length s) (drop a s) l ∙ sym (take_all n (drop a s) m))
    go false e d f =
        let p : min a (length s) ≡ length s = omega (arith, leb-false a (length s) e) in
        let u : drop (length s) s ≡ [] = drop_of_length-le s {i = length s} (omega arith) in
        let v : drop a s ≡ [] = drop_of_length-le s {i = a} (omega (arith, leb-false a (length s) e)) in
        rw (p, u, v) (take-nil (min n (length s)) ∙ sym (take-nil n))

pub held_is : (mem : Bytes) (n : Name) → name_of mem (held_name mem n) ≡ name_of mem n
unfolding name_of bytes
held_is mem n = rw (part_held mem n.scope.at n.scope.len, part_held mem n.word.at n.word.len)

-- and their numbers can be held
pub held_stores : (mem : Bytes) (n : Name) → length mem < 2 ^ 32 → Stores (held_name mem n)
held_stores mem n h = record { scope_at = omega arith; scope_len = omega arith; word_at = omega arith; word_len = omega arith }
