-- A port in four rows of names. Each law is stated as a need asks it. Assumes nothing.
use Prim.Native.Nat.{ℕ, ◌+◌, ◌*◌}
use native.Mathlib.Omega.{arith}
use mathlib.Core.Path.{◌≡◌}
use mathlib.Core.Bool.{false}
use mathlib.Core.List.{List}
use borrow.Author.Rules.{rules}
use Rattle.names.specs.declared.name.Name.{Name}
use Rattle.nametable.specs.Table.{row_name, Stores, row_put as name_put}
use Rattle.refs.specs.Text.{no_name}
use Rattle.refs.specs.declared.Ref.{Ref}
use Rattle.isolated.specs.Table.{parts_row, counts_row, isolated_of, port_row, names_put, numbers_put, port_put, Fits, port_ref}
use Rattle.isolated.specs.declared.Isolated.{Isolated}

module _ (x : Isolated) (f : Fits x) (n : Name) where
  pub parts_stores : n ≡ parts_row x → Stores n
  parts_stores e = rw e (record { scope_at = f.at; scope_len = f.len; word_at = f.net; word_len = f.size })

  pub counts_stores : n ≡ counts_row x → Stores n
  counts_stores e = rw e (record { scope_at = f.strategy; scope_len = f.upto; word_at = omega arith; word_len = omega arith })

pub names_put_lem : (t u v : List ℕ) (k : ℕ) (x : Isolated) → u ≡ name_put t (4 * k) x.element → v ≡ name_put u (4 * k + 1) x.last → v ≡ names_put t k x
names_put_lem t u v k x e f = rw (f, e)

pub numbers_put_lem : (t u v : List ℕ) (k : ℕ) (x : Isolated) (p q : Name) → u ≡ name_put t (4 * k + 2) p → v ≡ name_put u (4 * k + 3) q → p ≡ parts_row x → q ≡ counts_row x → v ≡ numbers_put t k x
numbers_put_lem t u v k x p q e f g h = rw (f, e, g, h)

pub port_put_lem : (t u v : List ℕ) (k : ℕ) (x : Isolated) → u ≡ names_put t k x → v ≡ numbers_put u k x → v ≡ port_put t k x
unfolding port_put
port_put_lem t u v k x e f = rw (f, e)

pub ruleset puts = (rules, parts_stores, counts_stores, names_put_lem, numbers_put_lem, port_put_lem)

pub port_row_lem : (t : List ℕ) (k : ℕ) (e l p q : Name) → e ≡ row_name t (4 * k) → l ≡ row_name t (4 * k + 1) → p ≡ row_name t (4 * k + 2) → q ≡ row_name t (4 * k + 3) → isolated_of e l p q ≡ port_row t k
unfolding port_row
port_row_lem t k e l p q a b c d = rw (a, b, c, d)

pub port_ref_lem : (x : Isolated) (n : Name) → n ≡ no_name → ◌≡◌ {A = Ref} (record { name = x.element; cut = false; upto = 0; sep = x.sep; last = n; at = x.at; len = x.len }) (port_ref x)
port_ref_lem x n e = rw e

pub ruleset rows = (rules, port_row_lem, port_ref_lem)
