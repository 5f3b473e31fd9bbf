-- Laws: a place of the table of names that no command of its own has. Assumes nothing.
use Rattle.std.specs.Prelude.{ℕ, zero, suc, ◌≤◌, ◌<◌, ◌≡◌, refl}
use Rattle.std.proofs.Common.{arith}
use Rattle.model.specs.Names.{Command, Named}
use Rattle.model.specs.Numbers.{named_by}

pub parsed_at : (k : ℕ) → k < 30 → (k ≡ 0 → ⊥) → (k ≡ 1 → ⊥) → (k ≡ 2 → ⊥) → (k ≡ 3 → ⊥) → (k ≡ 4 → ⊥) → (k ≡ 5 → ⊥) → (k ≡ 6 → ⊥) → (k ≡ 7 → ⊥) → (k ≡ 8 → ⊥) → (k ≡ 9 → ⊥) → (k ≡ 21 → ⊥) → (k ≡ 22 → ⊥) → (k ≡ 23 → ⊥) → (k ≡ 24 → ⊥) → (k ≡ 25 → ⊥) → (k ≡ 26 → ⊥) → (k ≡ 27 → ⊥) → (k ≡ 28 → ⊥) → (k ≡ 29 → ⊥) → named_by k ≡ Named.other Command.not_simulated
parsed_at zero h n0 n1 n2 n3 n4 n5 n6 n7 n8 n9 n21 n22 n23 n24 n25 n26 n27 n28 n29 = absurd (n0 refl)
parsed_at (suc zero) h n0 n1 n2 n3 n4 n5 n6 n7 n8 n9 n21 n22 n23 n24 n25 n26 n27 n28 n29 = absurd (n1 refl)
parsed_at (suc (suc zero)) h n0 n1 n2 n3 n4 n5 n6 n7 n8 n9 n21 n22 n23 n24 n25 n26 n27 n28 n29 = absurd (n2 refl)
parsed_at (suc (suc (suc zero))) h n0 n1 n2 n3 n4 n5 n6 n7 n8 n9 n21 n22 n23 n24 n25 n26 n27 n28 n29 = absurd (n3 refl)
parsed_at (suc (suc (suc (suc zero)))) h n0 n1 n2 n3 n4 n5 n6 n7 n8 n9 n21 n22 n23 n24 n25 n26 n27 n28 n29 = absurd (n4 refl)
parsed_at (suc (suc (suc (suc (suc zero))))) h n0 n1 n2 n3 n4 n5 n6 n7 n8 n9 n21 n22 n23 n24 n25 n26 n27 n28 n29 = absurd (n5 refl)
parsed_at (suc (suc (suc (suc (suc (suc zero)))))) h n0 n1 n2 n3 n4 n5 n6 n7 n8 n9 n21 n22 n23 n24 n25 n26 n27 n28 n29 = absurd (n6 refl)
parsed_at (suc (suc (suc (suc (suc (suc (suc zero))))))) h n0 n1 n2 n3 n4 n5 n6 n7 n8 n9 n21 n22 n23 n24 n25 n26 n27 n28 n29 = absurd (n7 refl)
parsed_at (suc (suc (suc (suc (suc (suc (suc (suc zero)))))))) h n0 n1 n2 n3 n4 n5 n6 n7 n8 n9 n21 n22 n23 n24 n25 n26 n27 n28 n29 = absurd (n8 refl)
parsed_at (suc (suc (suc (suc (suc (suc (suc (suc (suc zero))))))))) h n0 n1 n2 n3 n4 n5 n6 n7 n8 n9 n21 n22 n23 n24 n25 n26 n27 n28 n29 = absurd (n9 refl)
parsed_at (suc (suc (suc (suc (suc (suc (suc (suc (suc (suc zero)))))))))) h n0 n1 n2 n3 n4 n5 n6 n7 n8 n9 n21 n22 n23 n24 n25 n26 n27 n28 n29 = refl
parsed_at (suc (suc (suc (suc (suc (suc (suc (suc (suc (suc (suc zero))))))))))) h n0 n1 n2 n3 n4 n5 n6 n7 n8 n9 n21 n22 n23 n24 n25 n26 n27 n28 n29 = refl
parsed_at (suc (suc (suc (suc (suc (suc (suc (suc (suc (suc (suc (suc zero)))))))))))) h n0 n1 n2 n3 n4 n5 n6 n7 n8 n9 n21 n22 n23 n24 n25 n26 n27 n28 n29 = refl
parsed_at (suc (suc (suc (suc (suc (suc (suc (suc (suc (suc (suc (suc (suc zero))))))))))))) h n0 n1 n2 n3 n4 n5 n6 n7 n8 n9 n21 n22 n23 n24 n25 n26 n27 n28 n29 = refl
parsed_at (suc (suc (suc (suc (suc (suc (suc (suc (suc (suc (suc (suc (suc (suc zero)))))))))))))) h n0 n1 n2 n3 n4 n5 n6 n7 n8 n9 n21 n22 n23 n24 n25 n26 n27 n28 n29 = refl
parsed_at (suc (suc (suc (suc (suc (suc (suc (suc (suc (suc (suc (suc (suc (suc (suc zero))))))))))))))) h n0 n1 n2 n3 n4 n5 n6 n7 n8 n9 n21 n22 n23 n24 n25 n26 n27 n28 n29 = refl
parsed_at (suc (suc (suc (suc (suc (suc (suc (suc (suc (suc (suc (suc (suc (suc (suc (suc zero)))))))))))))))) h n0 n1 n2 n3 n4 n5 n6 n7 n8 n9 n21 n22 n23 n24 n25 n26 n27 n28 n29 = refl
parsed_at (suc (suc (suc (suc (suc (suc (suc (suc (suc (suc (suc (suc (suc (suc (suc (suc (suc zero))))))))))))))))) h n0 n1 n2 n3 n4 n5 n6 n7 n8 n9 n21 n22 n23 n24 n25 n26 n27 n28 n29 = refl
parsed_at (suc (suc (suc (suc (suc (suc (suc (suc (suc (suc (suc (suc (suc (suc (suc (suc (suc (suc zero)))))))))))))))))) h n0 n1 n2 n3 n4 n5 n6 n7 n8 n9 n21 n22 n23 n24 n25 n26 n27 n28 n29 = refl
parsed_at (suc (suc (suc (suc (suc (suc (suc (suc (suc (suc (suc (suc (suc (suc (suc (suc (suc (suc (suc zero))))))))))))))))))) h n0 n1 n2 n3 n4 n5 n6 n7 n8 n9 n21 n22 n23 n24 n25 n26 n27 n28 n29 = refl
parsed_at (suc (suc (suc (suc (suc (suc (suc (suc (suc (suc (suc (suc (suc (suc (suc (suc (suc (suc (suc (suc zero)))))))))))))))))))) h n0 n1 n2 n3 n4 n5 n6 n7 n8 n9 n21 n22 n23 n24 n25 n26 n27 n28 n29 = refl
parsed_at (suc (suc (suc (suc (suc (suc (suc (suc (suc (suc (suc (suc (suc (suc (suc (suc (suc (suc (suc (suc (suc zero))))))))))))))))))))) h n0 n1 n2 n3 n4 n5 n6 n7 n8 n9 n21 n22 n23 n24 n25 n26 n27 n28 n29 = absurd (n21 refl)
parsed_at (suc (suc (suc (suc (suc (suc (suc (suc (suc (suc (suc (suc (suc (suc (suc (suc (suc (suc (suc (suc (suc (suc zero)))))))))))))))))))))) h n0 n1 n2 n3 n4 n5 n6 n7 n8 n9 n21 n22 n23 n24 n25 n26 n27 n28 n29 = absurd (n22 refl)
parsed_at (suc (suc (suc (suc (suc (suc (suc (suc (suc (suc (suc (suc (suc (suc (suc (suc (suc (suc (suc (suc (suc (suc (suc zero))))))))))))))))))))))) h n0 n1 n2 n3 n4 n5 n6 n7 n8 n9 n21 n22 n23 n24 n25 n26 n27 n28 n29 = absurd (n23 refl)
parsed_at (suc (suc (suc (suc (suc (suc (suc (suc (suc (suc (suc (suc (suc (suc (suc (suc (suc (suc (suc (suc (suc (suc (suc (suc zero)))))))))))))))))))))))) h n0 n1 n2 n3 n4 n5 n6 n7 n8 n9 n21 n22 n23 n24 n25 n26 n27 n28 n29 = absurd (n24 refl)
parsed_at (suc (suc (suc (suc (suc (suc (suc (suc (suc (suc (suc (suc (suc (suc (suc (suc (suc (suc (suc (suc (suc (suc (suc (suc (suc zero))))))))))))))))))))))))) h n0 n1 n2 n3 n4 n5 n6 n7 n8 n9 n21 n22 n23 n24 n25 n26 n27 n28 n29 = absurd (n25 refl)
parsed_at (suc (suc (suc (suc (suc (suc (suc (suc (suc (suc (suc (suc (suc (suc (suc (suc (suc (suc (suc (suc (suc (suc (suc (suc (suc (suc zero)))))))))))))))))))))))))) h n0 n1 n2 n3 n4 n5 n6 n7 n8 n9 n21 n22 n23 n24 n25 n26 n27 n28 n29 = absurd (n26 refl)
parsed_at (suc (suc (suc (suc (suc (suc (suc (suc (suc (suc (suc (suc (suc (suc (suc (suc (suc (suc (suc (suc (suc (suc (suc (suc (suc (suc (suc zero))))))))))))))))))))))))))) h n0 n1 n2 n3 n4 n5 n6 n7 n8 n9 n21 n22 n23 n24 n25 n26 n27 n28 n29 = absurd (n27 refl)
parsed_at (suc (suc (suc (suc (suc (suc (suc (suc (suc (suc (suc (suc (suc (suc (suc (suc (suc (suc (suc (suc (suc (suc (suc (suc (suc (suc (suc (suc zero)))))))))))))))))))))))))))) h n0 n1 n2 n3 n4 n5 n6 n7 n8 n9 n21 n22 n23 n24 n25 n26 n27 n28 n29 = absurd (n28 refl)
parsed_at (suc (suc (suc (suc (suc (suc (suc (suc (suc (suc (suc (suc (suc (suc (suc (suc (suc (suc (suc (suc (suc (suc (suc (suc (suc (suc (suc (suc (suc zero))))))))))))))))))))))))))))) h n0 n1 n2 n3 n4 n5 n6 n7 n8 n9 n21 n22 n23 n24 n25 n26 n27 n28 n29 = absurd (n29 refl)
parsed_at (suc (suc (suc (suc (suc (suc (suc (suc (suc (suc (suc (suc (suc (suc (suc (suc (suc (suc (suc (suc (suc (suc (suc (suc (suc (suc (suc (suc (suc (suc c)))))))))))))))))))))))))))))) h n0 n1 n2 n3 n4 n5 n6 n7 n8 n9 n21 n22 n23 n24 n25 n26 n27 n28 n29 = absurd (omega (arith, h))

pub none_at : (k : ℕ) → 30 ≤ k → named_by k ≡ Named.unknown
none_at zero h = absurd (omega (arith, h))
none_at (suc zero) h = absurd (omega (arith, h))
none_at (suc (suc zero)) h = absurd (omega (arith, h))
none_at (suc (suc (suc zero))) h = absurd (omega (arith, h))
none_at (suc (suc (suc (suc zero)))) h = absurd (omega (arith, h))
none_at (suc (suc (suc (suc (suc zero))))) h = absurd (omega (arith, h))
none_at (suc (suc (suc (suc (suc (suc zero)))))) h = absurd (omega (arith, h))
none_at (suc (suc (suc (suc (suc (suc (suc zero))))))) h = absurd (omega (arith, h))
none_at (suc (suc (suc (suc (suc (suc (suc (suc zero)))))))) h = absurd (omega (arith, h))
none_at (suc (suc (suc (suc (suc (suc (suc (suc (suc zero))))))))) h = absurd (omega (arith, h))
none_at (suc (suc (suc (suc (suc (suc (suc (suc (suc (suc zero)))))))))) h = absurd (omega (arith, h))
none_at (suc (suc (suc (suc (suc (suc (suc (suc (suc (suc (suc zero))))))))))) h = absurd (omega (arith, h))
none_at (suc (suc (suc (suc (suc (suc (suc (suc (suc (suc (suc (suc zero)))))))))))) h = absurd (omega (arith, h))
none_at (suc (suc (suc (suc (suc (suc (suc (suc (suc (suc (suc (suc (suc zero))))))))))))) h = absurd (omega (arith, h))
none_at (suc (suc (suc (suc (suc (suc (suc (suc (suc (suc (suc (suc (suc (suc zero)))))))))))))) h = absurd (omega (arith, h))
none_at (suc (suc (suc (suc (suc (suc (suc (suc (suc (suc (suc (suc (suc (suc (suc zero))))))))))))))) h = absurd (omega (arith, h))
none_at (suc (suc (suc (suc (suc (suc (suc (suc (suc (suc (suc (suc (suc (suc (suc (suc zero)))))))))))))))) h = absurd (omega (arith, h))
none_at (suc (suc (suc (suc (suc (suc (suc (suc (suc (suc (suc (suc (suc (suc (suc (suc (suc zero))))))))))))))))) h = absurd (omega (arith, h))
none_at (suc (suc (suc (suc (suc (suc (suc (suc (suc (suc (suc (suc (suc (suc (suc (suc (suc (suc zero)))))))))))))))))) h = absurd (omega (arith, h))
none_at (suc (suc (suc (suc (suc (suc (suc (suc (suc (suc (suc (suc (suc (suc (suc (suc (suc (suc (suc zero))))))))))))))))))) h = absurd (omega (arith, h))
none_at (suc (suc (suc (suc (suc (suc (suc (suc (suc (suc (suc (suc (suc (suc (suc (suc (suc (suc (suc (suc zero)))))))))))))))))))) h = absurd (omega (arith, h))
none_at (suc (suc (suc (suc (suc (suc (suc (suc (suc (suc (suc (suc (suc (suc (suc (suc (suc (suc (suc (suc (suc zero))))))))))))))))))))) h = absurd (omega (arith, h))
none_at (suc (suc (suc (suc (suc (suc (suc (suc (suc (suc (suc (suc (suc (suc (suc (suc (suc (suc (suc (suc (suc (suc zero)))))))))))))))))))))) h = absurd (omega (arith, h))
none_at (suc (suc (suc (suc (suc (suc (suc (suc (suc (suc (suc (suc (suc (suc (suc (suc (suc (suc (suc (suc (suc (suc (suc zero))))))))))))))))))))))) h = absurd (omega (arith, h))
none_at (suc (suc (suc (suc (suc (suc (suc (suc (suc (suc (suc (suc (suc (suc (suc (suc (suc (suc (suc (suc (suc (suc (suc (suc zero)))))))))))))))))))))))) h = absurd (omega (arith, h))
none_at (suc (suc (suc (suc (suc (suc (suc (suc (suc (suc (suc (suc (suc (suc (suc (suc (suc (suc (suc (suc (suc (suc (suc (suc (suc zero))))))))))))))))))))))))) h = absurd (omega (arith, h))
none_at (suc (suc (suc (suc (suc (suc (suc (suc (suc (suc (suc (suc (suc (suc (suc (suc (suc (suc (suc (suc (suc (suc (suc (suc (suc (suc zero)))))))))))))))))))))))))) h = absurd (omega (arith, h))
none_at (suc (suc (suc (suc (suc (suc (suc (suc (suc (suc (suc (suc (suc (suc (suc (suc (suc (suc (suc (suc (suc (suc (suc (suc (suc (suc (suc zero))))))))))))))))))))))))))) h = absurd (omega (arith, h))
none_at (suc (suc (suc (suc (suc (suc (suc (suc (suc (suc (suc (suc (suc (suc (suc (suc (suc (suc (suc (suc (suc (suc (suc (suc (suc (suc (suc (suc zero)))))))))))))))))))))))))))) h = absurd (omega (arith, h))
none_at (suc (suc (suc (suc (suc (suc (suc (suc (suc (suc (suc (suc (suc (suc (suc (suc (suc (suc (suc (suc (suc (suc (suc (suc (suc (suc (suc (suc (suc zero))))))))))))))))))))))))))))) h = absurd (omega (arith, h))
none_at (suc (suc (suc (suc (suc (suc (suc (suc (suc (suc (suc (suc (suc (suc (suc (suc (suc (suc (suc (suc (suc (suc (suc (suc (suc (suc (suc (suc (suc (suc c)))))))))))))))))))))))))))))) h = refl
