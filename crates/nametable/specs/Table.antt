-- How numbers stand for a table of names: five a row. A row put behind the others is one name more at the end.
-- Assumes nothing.
use Prim.Native.Nat.{ℕ, zero, suc, ◌+◌, ◌*◌, ◌≤◌, ◌<◌, ◌^◌}
use Rattle.std.specs.Prelude.{◌≡◌, Bool, true, false, cond, ◌||◌, List, [], ◌∷◌, ◌++◌, eqb, ltb}
use Rattle.std.proofs.Math.Path.{refl}
use Rattle.std.proofs.Common.{ap, ◌∙◌, arith, add-one, add-zero}
use Rattle.std.proofs.Math.ListN.{length, get_or, set, length-set}
use Rattle.std.proofs.Math.Seq.{get_or-set_same, get_or-set_other}
use Rattle.text.specs.Ascii.{Bytes}
use Rattle.spans.specs.Span.{◌⋯◌, bytes}
use Rattle.names.specs.Name.{named, name_of, entry_of, slash}
use Rattle.names.specs.declared.name.Name.{Name}
use Rattle.names.specs.declared.name.Form.{Form}
use Rattle.names.specs.declared.name.Form.TheVariants.{Word, Entry, Quoted}

-- the fifth number: twice the form (a word 0, an entry 1, a quoted entry 2), and one more for a slash
abbrev pub form_at : ℕ → Form
form_at tag = cond (ltb tag 2) Word (cond (ltb tag 4) Entry Quoted)

abbrev pub sep_at : ℕ → Bool
sep_at tag = eqb tag 1 || (eqb tag 3 || eqb tag 5)

abbrev pub bit_of : Bool → ℕ
bit_of sep = cond sep 1 0

abbrev pub tag_of : Form → Bool → ℕ
tag_of Word sep = bit_of sep
tag_of Entry sep = 2 + bit_of sep
tag_of Quoted sep = 4 + bit_of sep

-- the name that row k holds
unfoldable pub row_name : List ℕ → ℕ → Name
row_name t k =
    named (get_or t (5 * k) 0 ⋯ get_or t (5 * k + 1) 0) (sep_at (get_or t (5 * k + 4) 0)) (get_or t (5 * k + 2) 0 ⋯ get_or t (5 * k + 3) 0) (form_at (get_or t (5 * k + 4) 0))

-- the bytes of n rows' names, from row k on
unfoldable pub names_from : Bytes → List ℕ → ℕ → ℕ → List Bytes
names_from mem t k zero = []
names_from mem t k (suc n) = name_of mem (row_name t k) ∷ names_from mem t (k + 1) n

-- the names of a table of n rows
abbrev pub table_names : Bytes → List ℕ → ℕ → List Bytes
table_names mem t n = names_from mem t 0 n

-- a table with a name put into row k
abbrev pub row_put : List ℕ → ℕ → Name → List ℕ
row_put t k n =
    set (set (set (set (set t (5 * k) n.scope.at) (5 * k + 1) n.scope.len) (5 * k + 2) n.word.at) (5 * k + 3) n.word.len) (5 * k + 4) (tag_of n.form n.sep)

-- a name whose numbers can be held
pub record Stores (n : Name) : Type 0 where
  pub scope_at : n.scope.at < 2 ^ 32
  pub scope_len : n.scope.len < 2 ^ 32
  pub word_at : n.word.at < 2 ^ 32
  pub word_len : n.word.len < 2 ^ 32

-- ---- laws

-- what is left, one row further on
pub names_next : (mem : Bytes) (t : List ℕ) (k n : ℕ) → names_from mem t k (suc n) ≡ name_of mem (row_name t k) ∷ names_from mem t (k + 1) n
unfolding names_from
names_next mem t k n = refl

pub names_none : (mem : Bytes) (t : List ℕ) (k : ℕ) → names_from mem t k 0 ≡ []
unfolding names_from
names_none mem t k = refl

-- the last row by itself
pub names_last : (mem : Bytes) (t : List ℕ) (k n : ℕ) → names_from mem t k (suc n) ≡ names_from mem t k n ++ (name_of mem (row_name t (k + n)) ∷ [])
unfolding names_from
names_last mem t k zero = let e : k + 0 ≡ k = add-zero k in rw e
names_last mem t k (suc n) =
    let e : k + 1 + n ≡ k + suc n = omega arith in
    ap (λ (l : List Bytes). name_of mem (row_name t k) ∷ l) (names_last mem t (k + 1) n ∙ rw e)

-- the k-th of them
pub names_at : (mem : Bytes) (t : List ℕ) (k n i : ℕ) → i < n → get_or (names_from mem t k n) i [] ≡ name_of mem (row_name t (k + i))
unfolding names_from
names_at mem t k zero i h = absurd (omega arith)
names_at mem t k (suc n) zero h = let e : k + 0 ≡ k = add-zero k in rw e
names_at mem t k (suc n) (suc i) h = let e : k + 1 + i ≡ k + suc i = omega arith in names_at mem t (k + 1) n i (omega arith) ∙ rw e

module _ (t : List ℕ) (k : ℕ) (n : Name) where
  -- rows before it are as they were
  other_at : (i : ℕ) → i < 5 * k → get_or (row_put t k n) i 0 ≡ get_or t i 0
  other_at i h =
      let l4 = set (set (set (set t (5 * k) n.scope.at) (5 * k + 1) n.scope.len) (5 * k + 2) n.word.at) (5 * k + 3) n.word.len in
      let l3 = set (set (set t (5 * k) n.scope.at) (5 * k + 1) n.scope.len) (5 * k + 2) n.word.at in
      let l2 = set (set t (5 * k) n.scope.at) (5 * k + 1) n.scope.len in
      let l1 = set t (5 * k) n.scope.at in
      get_or-set_other l4 (5 * k + 4) i (tag_of n.form n.sep) 0 (λ e. omega arith)
      ∙ get_or-set_other l3 (5 * k + 3) i n.word.len 0 (λ e. omega arith)
      ∙ get_or-set_other l2 (5 * k + 2) i n.word.at 0 (λ e. omega arith)
      ∙ get_or-set_other l1 (5 * k + 1) i n.scope.len 0 (λ e. omega arith)
      ∙ get_or-set_other t (5 * k) i n.scope.at 0 (λ e. omega arith)

  pub other_row : (j : ℕ) → j < k → row_name (row_put t k n) j ≡ row_name t j
  unfolding row_name
  other_row j h = rw (other_at (5 * j) (omega arith), other_at (5 * j + 1) (omega arith), other_at (5 * j + 2) (omega arith), other_at (5 * j + 3) (omega arith), other_at (5 * j + 4) (omega arith))

  other_names : (mem : Bytes) (i m : ℕ) → i + m ≤ k → names_from mem (row_put t k n) i m ≡ names_from mem t i m
  unfolding names_from
  other_names mem i zero h = refl
  other_names mem i (suc m) h = rw (other_row i (omega arith), other_names mem (i + 1) m (omega arith))

-- a tag read back is the slash and the form
tag_sep : (form : Form) (sep : Bool) → sep_at (tag_of form sep) ≡ sep
tag_sep Word true = refl
tag_sep Word false = refl
tag_sep Entry true = refl
tag_sep Entry false = refl
tag_sep Quoted true = refl
tag_sep Quoted false = refl

pub tag_form : (form : Form) (sep : Bool) → form_at (tag_of form sep) ≡ form
tag_form Word true = refl
tag_form Word false = refl
tag_form Entry true = refl
tag_form Entry false = refl
tag_form Quoted true = refl
tag_form Quoted false = refl

-- what is read back from row k
module _ (t : List ℕ) (k : ℕ) (n : Name) (h : 5 * k + 5 ≤ length t) where
  pub row_back : row_name (row_put t k n) k ≡ n
  unfolding row_name
  row_back =
      let l1 = set t (5 * k) n.scope.at in
      let l2 = set l1 (5 * k + 1) n.scope.len in
      let l3 = set l2 (5 * k + 2) n.word.at in
      let l4 = set l3 (5 * k + 3) n.word.len in
      let g1 : length l1 ≡ length t = length-set t (5 * k) n.scope.at in
      let g2 : length l2 ≡ length t = length-set l1 (5 * k + 1) n.scope.len ∙ g1 in
      let g3 : length l3 ≡ length t = length-set l2 (5 * k + 2) n.word.at ∙ g2 in
      let g4 : length l4 ≡ length t = length-set l3 (5 * k + 3) n.word.len ∙ g3 in
      let v = tag_of n.form n.sep in
      let e4 : get_or (row_put t k n) (5 * k + 4) 0 ≡ v = get_or-set_same l4 (5 * k + 4) v 0 (omega arith) in
      let e3 : get_or (row_put t k n) (5 * k + 3) 0 ≡ n.word.len = get_or-set_other l4 (5 * k + 4) (5 * k + 3) v 0 (λ e. omega arith) ∙ get_or-set_same l3 (5 * k + 3) n.word.len 0 (omega arith) in
      let e2 : get_or (row_put t k n) (5 * k + 2) 0 ≡ n.word.at = get_or-set_other l4 (5 * k + 4) (5 * k + 2) v 0 (λ e. omega arith) ∙ get_or-set_other l3 (5 * k + 3) (5 * k + 2) n.word.len 0 (λ e. omega arith) ∙ get_or-set_same l2 (5 * k + 2) n.word.at 0 (omega arith) in
      let e1 : get_or (row_put t k n) (5 * k + 1) 0 ≡ n.scope.len = get_or-set_other l4 (5 * k + 4) (5 * k + 1) v 0 (λ e. omega arith) ∙ get_or-set_other l3 (5 * k + 3) (5 * k + 1) n.word.len 0 (λ e. omega arith) ∙ get_or-set_other l2 (5 * k + 2) (5 * k + 1) n.word.at 0 (λ e. omega arith) ∙ get_or-set_same l1 (5 * k + 1) n.scope.len 0 (omega arith) in
      let e0 : get_or (row_put t k n) (5 * k) 0 ≡ n.scope.at = get_or-set_other l4 (5 * k + 4) (5 * k) v 0 (λ e. omega arith) ∙ get_or-set_other l3 (5 * k + 3) (5 * k) n.word.len 0 (λ e. omega arith) ∙ get_or-set_other l2 (5 * k + 2) (5 * k) n.word.at 0 (λ e. omega arith) ∙ get_or-set_other l1 (5 * k + 1) (5 * k) n.scope.len 0 (λ e. omega arith) ∙ get_or-set_same t (5 * k) n.scope.at 0 (omega arith) in
      rw (e0, e1, e2, e3, e4, tag_sep n.form n.sep, tag_form n.form n.sep)

module _ (mem : Bytes) (t : List ℕ) (k : ℕ) (n : Name) (h : 5 * k + 5 ≤ length t) where
  pub same_row : name_of mem (row_name (row_put t k n) k) ≡ name_of mem n
  same_row = ap (name_of mem) (row_back t k n h)

  -- a name put into the row behind n rows is one more at the end
  pub put_names : table_names mem (row_put t k n) (k + 1) ≡ table_names mem t k ++ (name_of mem n ∷ [])
  put_names =
      let z : 0 + k ≡ k = omega arith in
      let l : name_of mem (row_name (row_put t k n) (0 + k)) ≡ name_of mem n = ap (λ j. name_of mem (row_name (row_put t k n) j)) z ∙ same_row in
      ap (table_names mem (row_put t k n)) (add-one k)
      ∙ names_last mem (row_put t k n) 0 k
      ∙ ap (λ (x : Bytes). names_from mem (row_put t k n) 0 k ++ (x ∷ [])) l
      ∙ ap (λ (x : List Bytes). x ++ (name_of mem n ∷ [])) (other_names t k n mem 0 k (omega arith))
