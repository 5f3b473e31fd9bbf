-- Of an accepted job and its index: the names of instances have at most 64 bytes and are not empty, and the scope's module is one of its modules.
-- Assumes nothing.
use Rattle.std.specs.Prelude.{ℕ, ◌≤◌, ◌<◌, ◌≡◌, true, ◌&&◌, List, [], ◌∷◌, leb, length}
use Rattle.std.proofs.Common.{sym, ap, subst, arith, leb-true}
use mathlib.Core.List.{Memᴰ as Mem}
use Rattle.text.specs.Ascii.{Bytes}
use Rattle.text.specs.Classes.{opens_name, in_name}
use Rattle.text.specs.Scan.{all}
use Rattle.text.specs.Sames.{both}
use Rattle.fields.specs.Limits.{most_name}
use Rattle.fields.specs.Fields.{is_name}
use Rattle.joblines.specs.Job.{Module, Job}
use Rattle.joblines.specs.Parse.{accepted, parse}
use Rattle.jobindex.specs.Index.{module_row, Indexed}
use Rattle.jobindex.specs.declared.Header.{Header}
use Rattle.lookup.specs.Rows.{modules}
use Rattle.design.proofs.AcceptedNames.{accepted_names, name_filled}
use Rattle.walk.specs.Relative.{Filled}
use Rattle.corrupt.specs.RowMem.{row_mem}
use Rattle.corrupt.specs.Corrupt.{Short}

name_short : (s : Bytes) → is_name s ≡ true → length s ≤ 64
unfolding is_name
name_short [] e = omega arith
name_short (b ∷ s) e =
    let h = both (opens_name b) (all in_name s && leb (length (b ∷ s)) most_name) e in
    let r = both (all in_name s) (leb (length (b ∷ s)) most_name) h.1 in
    leb-true (length (b ∷ s)) most_name r.1

module _ (job : Bytes) (index : List ℕ) (head : Header) (j : Job) (ix : Indexed job index head j) (ok : parse job ≡ accepted j) where
  modules_are : j.modules ≡ modules job index head.modules
  modules_are = sym (ap (λ (x : Job). x.modules) ix.stands)

  pub row_in : (k : ℕ) → k < head.modules → Mem (module_row job index k) j.modules
  row_in k h = subst (λ (l : List Module). Mem (module_row job index k) l) (sym modules_are) (row_mem (module_row job index) head.modules k h)

  -- what the walk is given
  pub accepted_short : Short job index head.modules
  accepted_short k h i has = name_short i.name ((accepted_names job j ok (module_row job index k) (row_in k h)).insts i has)

  pub accepted_filled : Filled (modules job index head.modules)
  accepted_filled = subst Filled modules_are (λ m at i has. name_filled i.name ((accepted_names job j ok m at).insts i has))
