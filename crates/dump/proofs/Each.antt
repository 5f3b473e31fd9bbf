-- Laws: a loop that writes each of a list. Assumes nothing.
use Rattle.std.specs.Prelude.{ℕ, ◌+◌, ◌<◌, ◌≤◌, ◌≡◌, List, length, get_or, take, drop}
use Rattle.std.proofs.Common.{add-one, drop-cons, drop_of_length-le}
use Rattle.text.specs.Ascii.{Bytes}
use Rattle.out.specs.Emit.{Out, emit, emit_append, emit-⊕}
use Rattle.out.specs.Items.{each}
use Rattle.dump.specs.Fields.{number_text}
use Rattle.dump.specs.Tables.{table_text}

-- what is left to write, written from here, is the answer w: one turn, and the end
module _ {A : Type 0} (f : A → Bytes) (p : List A) (o w : Out) (i : ℕ) (k : emit o (each f (drop i p)) ≡ w) where
  pub each_next : (d : A) (o' : Out) → i < length p → o' ≡ emit o (f (get_or p i d)) → emit o' (each f (drop (i + 1) p)) ≡ w
  unfolding each
  each_next d o' h e = rw (e, add-one) (rw (drop-cons p i d h, emit_append) at k)

  pub each_done : length p ≤ i → o ≡ w
  unfolding each emit
  each_done h = rw (drop_of_length-le p {i = i} h) at k

-- behind the number of records
pub table_done : {A : Type 0} (f : A → Bytes) (n : ℕ) (all : List A) (o₀ p o : Out) (i : ℕ) → p ≡ emit o₀ (number_text n)
    → emit o (each f (drop i (take n all))) ≡ emit p (each f (take n all)) → length (take n all) ≤ i → o ≡ emit o₀ (table_text f n all)
unfolding table_text
table_done f n all o₀ p o i e k h = rw (emit-⊕, ← e) (each_done f (take n all) o _ i k h)
