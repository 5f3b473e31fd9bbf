-- Laws: a port put into the row behind the others is one port more at the end. Assumes nothing.
use Prim.Native.Nat.{ℕ, zero, suc, ◌+◌, ◌*◌, ◌≤◌, ◌<◌}
use Rattle.std.proofs.Common.{arith, add-one, add-zero, ◌∙◌, length-set}
use Rattle.std.specs.Prelude.{◌≡◌, List, [], ◌∷◌, ◌++◌, length}
use Rattle.std.proofs.Math.Path.{refl, ap}
use Rattle.text.specs.Ascii.{Bytes}
use Rattle.names.specs.Name.{name_of}
use Rattle.names.specs.declared.name.Name.{Name}
use Rattle.nametable.specs.Table.{row_name, row_put as name_put, other_row, row_back, same_row}
use Rattle.refs.specs.Text.{text_of}
use Rattle.isolated.specs.Table.{parts_row, counts_row, port_row, names_put, port_put, Kept, kept_of, kept_from, kept_in}
use Rattle.isolated.specs.declared.Isolated.{Isolated}

-- ---- rows one after the other

pub kept_next : (job mem : Bytes) (t : List ℕ) (k n : ℕ) → kept_from job mem t k (suc n) ≡ kept_of job mem (port_row t k) ∷ kept_from job mem t (k + 1) n
unfolding kept_from
kept_next job mem t k n = refl

pub kept_none : (job mem : Bytes) (t : List ℕ) (k : ℕ) → kept_from job mem t k 0 ≡ []
unfolding kept_from
kept_none job mem t k = refl

pub kept_long : (job mem : Bytes) (t : List ℕ) (k n : ℕ) → length (kept_from job mem t k n) ≡ n
unfolding kept_from
kept_long job mem t k zero = refl
kept_long job mem t k (suc n) = ap suc (kept_long job mem t (k + 1) n)

-- the last by itself
kept_last : (job mem : Bytes) (t : List ℕ) (k n : ℕ) → kept_from job mem t k (suc n) ≡ kept_from job mem t k n ++ (kept_of job mem (port_row t (k + n)) ∷ [])
unfolding kept_from
kept_last job mem t k zero = let e : k + 0 ≡ k = add-zero k in rw e
kept_last job mem t k (suc n) =
    let e : k + 1 + n ≡ k + suc n = omega arith in
    ap (λ (l : List Kept). kept_of job mem (port_row t k) ∷ l) (kept_last job mem t (k + 1) n ∙ rw e)

-- ---- a port put

name_long : (t : List ℕ) (j : ℕ) (n : Name) → length (name_put t j n) ≡ length t
name_long t j n = simp length-set

module _ (t : List ℕ) (k : ℕ) (x : Isolated) where
  abbrev t2 : List ℕ
  t2 = names_put t k x

  abbrev t3 : List ℕ
  t3 = name_put t2 (4 * k + 2) (parts_row x)

  -- the rows before it are as they were
  before_row : (i : ℕ) → i < 4 * k → row_name (port_put t k x) i ≡ row_name t i
  unfolding port_put
  before_row i h =
      other_row t3 (4 * k + 3) (counts_row x) i (omega arith)
      ∙ other_row t2 (4 * k + 2) (parts_row x) i (omega arith)
      ∙ other_row (name_put t (4 * k) x.element) (4 * k + 1) x.last i (omega arith)
      ∙ other_row t (4 * k) x.element i (omega arith)

  before_port : (j : ℕ) → j < k → port_row (port_put t k x) j ≡ port_row t j
  unfolding port_row
  before_port j h = rw (before_row (4 * j) (omega arith), before_row (4 * j + 1) (omega arith), before_row (4 * j + 2) (omega arith), before_row (4 * j + 3) (omega arith))

  before_all : (job mem : Bytes) (i m : ℕ) → i + m ≤ k → kept_from job mem (port_put t k x) i m ≡ kept_from job mem t i m
  unfolding kept_from
  before_all job mem i zero h = refl
  before_all job mem i (suc m) h = rw (before_port i (omega arith), before_all job mem (i + 1) m (omega arith))

  module _ (h : 20 * k + 20 ≤ length t) where
    long1 : length (name_put t (4 * k) x.element) ≡ length t
    long1 = name_long t (4 * k) x.element

    long2 : length t2 ≡ length t
    long2 = name_long (name_put t (4 * k) x.element) (4 * k + 1) x.last ∙ long1

    long3 : length t3 ≡ length t
    long3 = name_long t2 (4 * k + 2) (parts_row x) ∙ long2

    counts_back : row_name (port_put t k x) (4 * k + 3) ≡ counts_row x
    unfolding port_put
    counts_back = row_back t3 (4 * k + 3) (counts_row x) (omega (arith, long3))

    parts_back : row_name (port_put t k x) (4 * k + 2) ≡ parts_row x
    unfolding port_put
    parts_back = other_row t3 (4 * k + 3) (counts_row x) (4 * k + 2) (omega arith) ∙ row_back t2 (4 * k + 2) (parts_row x) (omega (arith, long2))

    last_back : (mem : Bytes) → name_of mem (row_name (port_put t k x) (4 * k + 1)) ≡ name_of mem x.last
    unfolding port_put
    last_back mem =
        ap (name_of mem) (other_row t3 (4 * k + 3) (counts_row x) (4 * k + 1) (omega arith) ∙ other_row t2 (4 * k + 2) (parts_row x) (4 * k + 1) (omega arith))
        ∙ same_row mem (name_put t (4 * k) x.element) (4 * k + 1) x.last (omega (arith, long1))

    element_back : (mem : Bytes) → name_of mem (row_name (port_put t k x) (4 * k)) ≡ name_of mem x.element
    unfolding port_put
    element_back mem =
        ap (name_of mem)
        (other_row t3 (4 * k + 3) (counts_row x) (4 * k) (omega arith)
        ∙ other_row t2 (4 * k + 2) (parts_row x) (4 * k) (omega arith)
        ∙ other_row (name_put t (4 * k) x.element) (4 * k + 1) x.last (4 * k) (omega arith))
        ∙ same_row mem t (4 * k) x.element (omega arith)

    port_back : (job mem : Bytes) → kept_of job mem (port_row (port_put t k x) k) ≡ kept_of job mem x
    unfolding port_row text_of
    port_back job mem = rw (element_back mem, last_back mem, parts_back, counts_back)

    -- behind k rows it is one port more at the end
    pub put_kept : (job mem : Bytes) → kept_in job mem (port_put t k x) (k + 1) ≡ kept_in job mem t k ++ (kept_of job mem x ∷ [])
    put_kept job mem =
        let z : 0 + k ≡ k = omega arith in
        let l : kept_of job mem (port_row (port_put t k x) (0 + k)) ≡ kept_of job mem x = ap (λ j. kept_of job mem (port_row (port_put t k x) j)) z ∙ port_back job mem in
        ap (kept_in job mem (port_put t k x)) (add-one k)
        ∙ kept_last job mem (port_put t k x) 0 k
        ∙ ap (λ (y : Kept). kept_from job mem (port_put t k x) 0 k ++ (y ∷ [])) l
        ∙ ap (λ (y : List Kept). y ++ (kept_of job mem x ∷ [])) (before_all job mem 0 k (omega arith))
