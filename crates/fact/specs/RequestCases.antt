-- Cases of the requests, from bytes, beside document 01's A to J. Request S-2: registers with an enable. Request S-3:
-- fixed inputs that hold 0 until poked. Request S-7: known zeros that decide an operator.
-- Assumes nothing.
use Rattle.std.specs.Prelude.{true, false, List, [], ◌∷◌, ℕ}
use Rattle.fact.specs.declared.Fact.TheVariants.{Always, Open, Marked}
use Rattle.fact.specs.Cases.{Case}

-- an enable (0), and four registers (5 to 8) of width 8 that have it, each at power-on 5: their data are a free input
-- (1), a secret one (2), the constants 261, which is 5 at their width (3), and 7 (4)
abbrev enabled_by : List ℕ → List (List ℕ)
enabled_by enable =
    enable
    ∷ (0 ∷ 8 ∷ 1 ∷ 0 ∷ 0 ∷ 0 ∷ 0 ∷ 0 ∷ 0 ∷ 0 ∷ 0 ∷ 0 ∷ 0 ∷ 0 ∷ 0 ∷ 0 ∷ [])
    ∷ (0 ∷ 8 ∷ 2 ∷ 0 ∷ 0 ∷ 0 ∷ 0 ∷ 0 ∷ 0 ∷ 0 ∷ 0 ∷ 0 ∷ 0 ∷ 0 ∷ 0 ∷ 0 ∷ [])
    ∷ (1 ∷ 16 ∷ 0 ∷ 0 ∷ 0 ∷ 0 ∷ 0 ∷ 0 ∷ 0 ∷ 0 ∷ 0 ∷ 0 ∷ 5 ∷ 1 ∷ 0 ∷ 0 ∷ [])
    ∷ (1 ∷ 8 ∷ 0 ∷ 0 ∷ 0 ∷ 0 ∷ 0 ∷ 0 ∷ 0 ∷ 0 ∷ 0 ∷ 0 ∷ 7 ∷ 0 ∷ 0 ∷ 0 ∷ [])
    ∷ (5 ∷ 8 ∷ 0 ∷ 0 ∷ 1 ∷ 0 ∷ 0 ∷ 0 ∷ 0 ∷ 0 ∷ 0 ∷ 0 ∷ 5 ∷ 0 ∷ 0 ∷ 0 ∷ [])
    ∷ (5 ∷ 8 ∷ 0 ∷ 0 ∷ 2 ∷ 0 ∷ 0 ∷ 0 ∷ 0 ∷ 0 ∷ 0 ∷ 0 ∷ 5 ∷ 0 ∷ 0 ∷ 0 ∷ [])
    ∷ (5 ∷ 8 ∷ 0 ∷ 0 ∷ 3 ∷ 0 ∷ 0 ∷ 0 ∷ 0 ∷ 0 ∷ 0 ∷ 0 ∷ 5 ∷ 0 ∷ 0 ∷ 0 ∷ [])
    ∷ (5 ∷ 8 ∷ 0 ∷ 0 ∷ 4 ∷ 0 ∷ 0 ∷ 0 ∷ 0 ∷ 0 ∷ 0 ∷ 0 ∷ 5 ∷ 0 ∷ 0 ∷ 0 ∷ [])
    ∷ []

-- enable constant 0: always the power-on value, whatever the data
abbrev pub case_enable_zero : Case
case_enable_zero =
    record {
      records = enabled_by (1 ∷ 1 ∷ 0 ∷ 0 ∷ 0 ∷ 0 ∷ 0 ∷ 0 ∷ 0 ∷ 0 ∷ 0 ∷ 0 ∷ 0 ∷ 0 ∷ 0 ∷ 0 ∷ []);
      rounds = 0;
      bound_met = false;
      variables = 5 ∷ 6 ∷ 7 ∷ 8 ∷ [];
      facts = Always 5 ∷ Always 5 ∷ Always 5 ∷ Always 5 ∷ [];
    }

-- enable constant 3: the plain register's rule
abbrev pub case_enable_three : Case
case_enable_three =
    record {
      records = enabled_by (1 ∷ 2 ∷ 0 ∷ 0 ∷ 0 ∷ 0 ∷ 0 ∷ 0 ∷ 0 ∷ 0 ∷ 0 ∷ 0 ∷ 3 ∷ 0 ∷ 0 ∷ 0 ∷ []);
      rounds = 1;
      bound_met = false;
      variables = 5 ∷ 6 ∷ 7 ∷ 8 ∷ [];
      facts = Open ∷ Marked ∷ Always 5 ∷ Open ∷ [];
    }

-- enable constant 2^31, which is 0 at the registers' width: the plain rule, as all of the enable counts
abbrev pub case_enable_wide : Case
case_enable_wide =
    record {
      records = enabled_by (1 ∷ 32 ∷ 0 ∷ 0 ∷ 0 ∷ 0 ∷ 0 ∷ 0 ∷ 0 ∷ 0 ∷ 0 ∷ 0 ∷ 0 ∷ 0 ∷ 0 ∷ 128 ∷ []);
      rounds = 1;
      bound_met = false;
      variables = 5 ∷ 6 ∷ 7 ∷ 8 ∷ [];
      facts = Open ∷ Marked ∷ Always 5 ∷ Open ∷ [];
    }

-- enable free: the plain register's rule
abbrev pub case_enable_free : Case
case_enable_free =
    record {
      records = enabled_by (0 ∷ 1 ∷ 1 ∷ 0 ∷ 0 ∷ 0 ∷ 0 ∷ 0 ∷ 0 ∷ 0 ∷ 0 ∷ 0 ∷ 0 ∷ 0 ∷ 0 ∷ 0 ∷ []);
      rounds = 1;
      bound_met = false;
      variables = 5 ∷ 6 ∷ 7 ∷ 8 ∷ [];
      facts = Open ∷ Marked ∷ Always 5 ∷ Open ∷ [];
    }

-- enable secret: always where the data is always the power-on value, else marked
abbrev pub case_enable_secret : Case
case_enable_secret =
    record {
      records = enabled_by (0 ∷ 1 ∷ 2 ∷ 0 ∷ 0 ∷ 0 ∷ 0 ∷ 0 ∷ 0 ∷ 0 ∷ 0 ∷ 0 ∷ 0 ∷ 0 ∷ 0 ∷ 0 ∷ []);
      rounds = 1;
      bound_met = false;
      variables = 5 ∷ 6 ∷ 7 ∷ 8 ∷ [];
      facts = Marked ∷ Marked ∷ Always 5 ∷ Marked ∷ [];
    }

-- registers that are their own enables, with secret data (0): at power-on 0 (1) never loaded, at power-on 1 (2) loaded
abbrev pub case_enable_itself : Case
case_enable_itself =
    record {
      records =
          (0 ∷ 1 ∷ 2 ∷ 0 ∷ 0 ∷ 0 ∷ 0 ∷ 0 ∷ 0 ∷ 0 ∷ 0 ∷ 0 ∷ 0 ∷ 0 ∷ 0 ∷ 0 ∷ [])
          ∷ (5 ∷ 1 ∷ 0 ∷ 0 ∷ 0 ∷ 0 ∷ 1 ∷ 0 ∷ 0 ∷ 0 ∷ 0 ∷ 0 ∷ 0 ∷ 0 ∷ 0 ∷ 0 ∷ [])
          ∷ (5 ∷ 1 ∷ 0 ∷ 0 ∷ 0 ∷ 0 ∷ 2 ∷ 0 ∷ 0 ∷ 0 ∷ 0 ∷ 0 ∷ 1 ∷ 0 ∷ 0 ∷ 0 ∷ [])
          ∷ [];
      rounds = 1;
      bound_met = false;
      variables = 1 ∷ 2 ∷ [];
      facts = Always 0 ∷ Marked ∷ [];
    }

-- an enable (1) that is always 0 before any round, and open after the first: the register that it enables (3), whose
-- data is free (2), opens in the second
abbrev pub case_enable_opens : Case
case_enable_opens =
    record {
      records =
          (1 ∷ 1 ∷ 0 ∷ 0 ∷ 0 ∷ 0 ∷ 0 ∷ 0 ∷ 0 ∷ 0 ∷ 0 ∷ 0 ∷ 1 ∷ 0 ∷ 0 ∷ 0 ∷ [])
          ∷ (4 ∷ 1 ∷ 0 ∷ 0 ∷ 0 ∷ 0 ∷ 0 ∷ 0 ∷ 0 ∷ 0 ∷ 0 ∷ 0 ∷ 0 ∷ 0 ∷ 0 ∷ 0 ∷ [])
          ∷ (0 ∷ 8 ∷ 1 ∷ 0 ∷ 0 ∷ 0 ∷ 0 ∷ 0 ∷ 0 ∷ 0 ∷ 0 ∷ 0 ∷ 0 ∷ 0 ∷ 0 ∷ 0 ∷ [])
          ∷ (5 ∷ 8 ∷ 0 ∷ 0 ∷ 2 ∷ 0 ∷ 1 ∷ 0 ∷ 0 ∷ 0 ∷ 0 ∷ 0 ∷ 5 ∷ 0 ∷ 0 ∷ 0 ∷ [])
          ∷ [];
      rounds = 2;
      bound_met = false;
      variables = 1 ∷ 3 ∷ [];
      facts = Open ∷ Open ∷ [];
    }

-- E with enables: register p (1) fed by constant 1 (0), register q (2) fed by p, both with the constant as enable
abbrev pub case_enable_row : Case
case_enable_row =
    record {
      records =
          (1 ∷ 1 ∷ 0 ∷ 0 ∷ 0 ∷ 0 ∷ 0 ∷ 0 ∷ 0 ∷ 0 ∷ 0 ∷ 0 ∷ 1 ∷ 0 ∷ 0 ∷ 0 ∷ [])
          ∷ (5 ∷ 1 ∷ 0 ∷ 0 ∷ 0 ∷ 0 ∷ 0 ∷ 0 ∷ 0 ∷ 0 ∷ 0 ∷ 0 ∷ 0 ∷ 0 ∷ 0 ∷ 0 ∷ [])
          ∷ (5 ∷ 1 ∷ 0 ∷ 0 ∷ 1 ∷ 0 ∷ 0 ∷ 0 ∷ 0 ∷ 0 ∷ 0 ∷ 0 ∷ 0 ∷ 0 ∷ 0 ∷ 0 ∷ [])
          ∷ [];
      rounds = 2;
      bound_met = false;
      variables = 1 ∷ 2 ∷ [];
      facts = Open ∷ Open ∷ [];
    }

-- a counter (2) with a free enable (0), and the sum (3) that feeds it: the register breaks the loop
abbrev pub case_counter : Case
case_counter =
    record {
      records =
          (0 ∷ 1 ∷ 1 ∷ 0 ∷ 0 ∷ 0 ∷ 0 ∷ 0 ∷ 0 ∷ 0 ∷ 0 ∷ 0 ∷ 0 ∷ 0 ∷ 0 ∷ 0 ∷ [])
          ∷ (1 ∷ 8 ∷ 0 ∷ 0 ∷ 0 ∷ 0 ∷ 0 ∷ 0 ∷ 0 ∷ 0 ∷ 0 ∷ 0 ∷ 1 ∷ 0 ∷ 0 ∷ 0 ∷ [])
          ∷ (5 ∷ 8 ∷ 0 ∷ 0 ∷ 3 ∷ 0 ∷ 0 ∷ 0 ∷ 0 ∷ 0 ∷ 0 ∷ 0 ∷ 0 ∷ 0 ∷ 0 ∷ 0 ∷ [])
          ∷ (2 ∷ 8 ∷ 0 ∷ 0 ∷ 2 ∷ 0 ∷ 1 ∷ 0 ∷ 0 ∷ 0 ∷ 0 ∷ 0 ∷ 0 ∷ 0 ∷ 0 ∷ 0 ∷ [])
          ∷ [];
      rounds = 1;
      bound_met = false;
      variables = 2 ∷ 3 ∷ [];
      facts = Open ∷ Open ∷ [];
    }

-- one register (0), its own enable, at power-on 1, fed by a multiplexer (1) with the register as control, B constant 0
-- (2), C secret (3): the bound is met
abbrev pub case_enable_bound : Case
case_enable_bound =
    record {
      records =
          (5 ∷ 1 ∷ 0 ∷ 0 ∷ 1 ∷ 0 ∷ 0 ∷ 0 ∷ 0 ∷ 0 ∷ 0 ∷ 0 ∷ 1 ∷ 0 ∷ 0 ∷ 0 ∷ [])
          ∷ (3 ∷ 1 ∷ 0 ∷ 0 ∷ 0 ∷ 0 ∷ 2 ∷ 0 ∷ 3 ∷ 0 ∷ 0 ∷ 0 ∷ 0 ∷ 0 ∷ 0 ∷ 0 ∷ [])
          ∷ (1 ∷ 1 ∷ 0 ∷ 0 ∷ 0 ∷ 0 ∷ 0 ∷ 0 ∷ 0 ∷ 0 ∷ 0 ∷ 0 ∷ 0 ∷ 0 ∷ 0 ∷ 0 ∷ [])
          ∷ (0 ∷ 1 ∷ 2 ∷ 0 ∷ 0 ∷ 0 ∷ 0 ∷ 0 ∷ 0 ∷ 0 ∷ 0 ∷ 0 ∷ 0 ∷ 0 ∷ 0 ∷ 0 ∷ [])
          ∷ [];
      rounds = 2;
      bound_met = true;
      variables = 0 ∷ [];
      facts = Marked ∷ [];
    }

-- Inputs fixed to 9 (0) and to 0 (1), a secret one (2), and the constant 9 (3). Registers of the first, at power-on 9
-- (4), which takes 0 at a tick before the poke, and of the second, at power-on 0 (5). Multiplexers: of the second and
-- the secret, by the first (6), and by the constant (7), which passes the secret over; of the secret and the first, by
-- the second (8). Registers that take the secret, the first as enable (9), and the second (10). The first plus the
-- second (11).
abbrev pub case_fixed : Case
case_fixed =
    record {
      records =
          (0 ∷ 4 ∷ 0 ∷ 0 ∷ 0 ∷ 0 ∷ 0 ∷ 0 ∷ 0 ∷ 0 ∷ 0 ∷ 0 ∷ 9 ∷ 0 ∷ 0 ∷ 0 ∷ [])
          ∷ (0 ∷ 4 ∷ 0 ∷ 0 ∷ 0 ∷ 0 ∷ 0 ∷ 0 ∷ 0 ∷ 0 ∷ 0 ∷ 0 ∷ 0 ∷ 0 ∷ 0 ∷ 0 ∷ [])
          ∷ (0 ∷ 4 ∷ 2 ∷ 0 ∷ 0 ∷ 0 ∷ 0 ∷ 0 ∷ 0 ∷ 0 ∷ 0 ∷ 0 ∷ 0 ∷ 0 ∷ 0 ∷ 0 ∷ [])
          ∷ (1 ∷ 4 ∷ 0 ∷ 0 ∷ 0 ∷ 0 ∷ 0 ∷ 0 ∷ 0 ∷ 0 ∷ 0 ∷ 0 ∷ 9 ∷ 0 ∷ 0 ∷ 0 ∷ [])
          ∷ (4 ∷ 4 ∷ 0 ∷ 0 ∷ 0 ∷ 0 ∷ 0 ∷ 0 ∷ 0 ∷ 0 ∷ 0 ∷ 0 ∷ 9 ∷ 0 ∷ 0 ∷ 0 ∷ [])
          ∷ (4 ∷ 4 ∷ 0 ∷ 0 ∷ 1 ∷ 0 ∷ 0 ∷ 0 ∷ 0 ∷ 0 ∷ 0 ∷ 0 ∷ 0 ∷ 0 ∷ 0 ∷ 0 ∷ [])
          ∷ (3 ∷ 4 ∷ 0 ∷ 0 ∷ 0 ∷ 0 ∷ 1 ∷ 0 ∷ 2 ∷ 0 ∷ 0 ∷ 0 ∷ 0 ∷ 0 ∷ 0 ∷ 0 ∷ [])
          ∷ (3 ∷ 4 ∷ 0 ∷ 0 ∷ 3 ∷ 0 ∷ 1 ∷ 0 ∷ 2 ∷ 0 ∷ 0 ∷ 0 ∷ 0 ∷ 0 ∷ 0 ∷ 0 ∷ [])
          ∷ (3 ∷ 4 ∷ 0 ∷ 0 ∷ 1 ∷ 0 ∷ 2 ∷ 0 ∷ 0 ∷ 0 ∷ 0 ∷ 0 ∷ 0 ∷ 0 ∷ 0 ∷ 0 ∷ [])
          ∷ (5 ∷ 4 ∷ 0 ∷ 0 ∷ 2 ∷ 0 ∷ 0 ∷ 0 ∷ 0 ∷ 0 ∷ 0 ∷ 0 ∷ 5 ∷ 0 ∷ 0 ∷ 0 ∷ [])
          ∷ (5 ∷ 4 ∷ 0 ∷ 0 ∷ 2 ∷ 0 ∷ 1 ∷ 0 ∷ 0 ∷ 0 ∷ 0 ∷ 0 ∷ 5 ∷ 0 ∷ 0 ∷ 0 ∷ [])
          ∷ (2 ∷ 4 ∷ 0 ∷ 0 ∷ 0 ∷ 0 ∷ 1 ∷ 0 ∷ 0 ∷ 0 ∷ 0 ∷ 0 ∷ 0 ∷ 0 ∷ 0 ∷ 0 ∷ [])
          ∷ [];
      rounds = 1;
      bound_met = false;
      variables = 0 ∷ 1 ∷ 2 ∷ 3 ∷ 4 ∷ 5 ∷ 6 ∷ 7 ∷ 8 ∷ 9 ∷ 10 ∷ 11 ∷ [];
      facts =
          Open
          ∷ Always 0
          ∷ Marked
          ∷ Always 9
          ∷ Open
          ∷ Always 0
          ∷ Marked
          ∷ Always 0
          ∷ Open
          ∷ Marked
          ∷ Always 5
          ∷ Open
          ∷ [];
    }

-- an operator of width 8, by its code, A and B
abbrev operator8 : ℕ → ℕ → ℕ → List ℕ
operator8 code a b = 2 ∷ 8 ∷ code ∷ 0 ∷ a ∷ 0 ∷ b ∷ 0 ∷ 0 ∷ 0 ∷ 0 ∷ 0 ∷ 0 ∷ 0 ∷ 0 ∷ 0 ∷ []

-- a secret input (0), a free one (1), one tied to 0 (2) and the constant 0 (3), all of width 8, and operators of them
abbrev operators_of_zeros : List (List ℕ) → List (List ℕ)
operators_of_zeros operators =
    (0 ∷ 8 ∷ 2 ∷ 0 ∷ 0 ∷ 0 ∷ 0 ∷ 0 ∷ 0 ∷ 0 ∷ 0 ∷ 0 ∷ 0 ∷ 0 ∷ 0 ∷ 0 ∷ [])
    ∷ (0 ∷ 8 ∷ 1 ∷ 0 ∷ 0 ∷ 0 ∷ 0 ∷ 0 ∷ 0 ∷ 0 ∷ 0 ∷ 0 ∷ 0 ∷ 0 ∷ 0 ∷ 0 ∷ [])
    ∷ (0 ∷ 8 ∷ 0 ∷ 0 ∷ 0 ∷ 0 ∷ 0 ∷ 0 ∷ 0 ∷ 0 ∷ 0 ∷ 0 ∷ 0 ∷ 0 ∷ 0 ∷ 0 ∷ [])
    ∷ (1 ∷ 8 ∷ 0 ∷ 0 ∷ 0 ∷ 0 ∷ 0 ∷ 0 ∷ 0 ∷ 0 ∷ 0 ∷ 0 ∷ 0 ∷ 0 ∷ 0 ∷ 0 ∷ [])
    ∷ operators

-- an and with a known zero on either side, the other operand secret or free
abbrev pub case_zero_and : Case
case_zero_and =
    record {
      records = operators_of_zeros (operator8 2 0 2 ∷ operator8 2 3 0 ∷ operator8 2 1 3 ∷ operator8 2 2 1 ∷ []);
      rounds = 0;
      bound_met = true;
      variables = 4 ∷ 5 ∷ 6 ∷ 7 ∷ [];
      facts = Always 0 ∷ Always 0 ∷ Always 0 ∷ Always 0 ∷ [];
    }

-- a known zero shifted either way, by a secret amount (4, 5) and by a free one (6, 7); the other way round, shifted by
-- a known zero, the secret (8, 9) and the free input (10, 11) stay what they are
abbrev pub case_zero_shift : Case
case_zero_shift =
    record {
      records =
          operators_of_zeros
          (operator8 7 3 0
          ∷ operator8 8 3 0
          ∷ operator8 7 2 1
          ∷ operator8 8 2 1
          ∷ operator8 7 0 3
          ∷ operator8 8 0 3
          ∷ operator8 7 1 2
          ∷ operator8 8 1 2
          ∷ []);
      rounds = 0;
      bound_met = true;
      variables = 4 ∷ 5 ∷ 6 ∷ 7 ∷ 8 ∷ 9 ∷ 10 ∷ 11 ∷ [];
      facts = Always 0 ∷ Always 0 ∷ Always 0 ∷ Always 0 ∷ Marked ∷ Marked ∷ Open ∷ Open ∷ [];
    }

-- nothing is less than a known zero (4, 5); the other way round is not decided (6, 7)
abbrev pub case_zero_less : Case
case_zero_less =
    record {
      records = operators_of_zeros (operator8 6 0 3 ∷ operator8 6 1 2 ∷ operator8 6 3 0 ∷ operator8 6 2 1 ∷ []);
      rounds = 0;
      bound_met = true;
      variables = 4 ∷ 5 ∷ 6 ∷ 7 ∷ [];
      facts = Always 0 ∷ Always 0 ∷ Marked ∷ Open ∷ [];
    }

-- the other operators of the secret and a known zero, either way round: add, subtract, or, xor and equal
abbrev pub case_zero_elsewhere : Case
case_zero_elsewhere =
    record {
      records =
          operators_of_zeros
          (operator8 0 0 3
          ∷ operator8 0 3 0
          ∷ operator8 1 0 3
          ∷ operator8 1 3 0
          ∷ operator8 3 0 3
          ∷ operator8 3 3 0
          ∷ operator8 4 0 3
          ∷ operator8 4 3 0
          ∷ operator8 5 0 3
          ∷ operator8 5 3 0
          ∷ []);
      rounds = 0;
      bound_met = true;
      variables = 4 ∷ 5 ∷ 6 ∷ 7 ∷ 8 ∷ 9 ∷ 10 ∷ 11 ∷ 12 ∷ 13 ∷ [];
      facts =
          Marked ∷ Marked ∷ Marked ∷ Marked ∷ Marked ∷ Marked ∷ Marked ∷ Marked ∷ Marked ∷ Marked ∷ [];
    }

-- what is no zero decides nothing: a secret input (0) with the constants 255 (1), in an or (4); 32 (2), in a shift (5);
-- and 256 (3), which is 0 at the width of the and (6)
abbrev pub case_no_zero : Case
case_no_zero =
    record {
      records =
          (0 ∷ 8 ∷ 2 ∷ 0 ∷ 0 ∷ 0 ∷ 0 ∷ 0 ∷ 0 ∷ 0 ∷ 0 ∷ 0 ∷ 0 ∷ 0 ∷ 0 ∷ 0 ∷ [])
          ∷ (1 ∷ 8 ∷ 0 ∷ 0 ∷ 0 ∷ 0 ∷ 0 ∷ 0 ∷ 0 ∷ 0 ∷ 0 ∷ 0 ∷ 255 ∷ 0 ∷ 0 ∷ 0 ∷ [])
          ∷ (1 ∷ 8 ∷ 0 ∷ 0 ∷ 0 ∷ 0 ∷ 0 ∷ 0 ∷ 0 ∷ 0 ∷ 0 ∷ 0 ∷ 32 ∷ 0 ∷ 0 ∷ 0 ∷ [])
          ∷ (1 ∷ 16 ∷ 0 ∷ 0 ∷ 0 ∷ 0 ∷ 0 ∷ 0 ∷ 0 ∷ 0 ∷ 0 ∷ 0 ∷ 0 ∷ 1 ∷ 0 ∷ 0 ∷ [])
          ∷ operator8 3 0 1
          ∷ operator8 7 0 2
          ∷ operator8 2 0 3
          ∷ [];
      rounds = 0;
      bound_met = true;
      variables = 4 ∷ 5 ∷ 6 ∷ [];
      facts = Marked ∷ Marked ∷ Marked ∷ [];
    }

-- a secret bus (0) and an enable tied to 0 (1): the gated bus (2) is always 0, and so is the register that takes it (3).
-- A register (4) that is its own gate (5) stays 0 too
abbrev pub case_gated_bus : Case
case_gated_bus =
    record {
      records =
          (0 ∷ 8 ∷ 2 ∷ 0 ∷ 0 ∷ 0 ∷ 0 ∷ 0 ∷ 0 ∷ 0 ∷ 0 ∷ 0 ∷ 0 ∷ 0 ∷ 0 ∷ 0 ∷ [])
          ∷ (0 ∷ 8 ∷ 0 ∷ 0 ∷ 0 ∷ 0 ∷ 0 ∷ 0 ∷ 0 ∷ 0 ∷ 0 ∷ 0 ∷ 0 ∷ 0 ∷ 0 ∷ 0 ∷ [])
          ∷ operator8 2 0 1
          ∷ (4 ∷ 8 ∷ 0 ∷ 0 ∷ 2 ∷ 0 ∷ 0 ∷ 0 ∷ 0 ∷ 0 ∷ 0 ∷ 0 ∷ 0 ∷ 0 ∷ 0 ∷ 0 ∷ [])
          ∷ (4 ∷ 8 ∷ 0 ∷ 0 ∷ 5 ∷ 0 ∷ 0 ∷ 0 ∷ 0 ∷ 0 ∷ 0 ∷ 0 ∷ 0 ∷ 0 ∷ 0 ∷ 0 ∷ [])
          ∷ operator8 2 0 4
          ∷ [];
      rounds = 0;
      bound_met = false;
      variables = 2 ∷ 3 ∷ 4 ∷ 5 ∷ [];
      facts = Always 0 ∷ Always 0 ∷ Always 0 ∷ Always 0 ∷ [];
    }

-- a gate (2) that is always 0 before any round, and open after the first, as it takes the constant 1 (1): the gated
-- bus (3) is marked from then on, and the register that takes it (4) after the second
abbrev pub case_gate_opens : Case
case_gate_opens =
    record {
      records =
          (0 ∷ 8 ∷ 2 ∷ 0 ∷ 0 ∷ 0 ∷ 0 ∷ 0 ∷ 0 ∷ 0 ∷ 0 ∷ 0 ∷ 0 ∷ 0 ∷ 0 ∷ 0 ∷ [])
          ∷ (1 ∷ 8 ∷ 0 ∷ 0 ∷ 0 ∷ 0 ∷ 0 ∷ 0 ∷ 0 ∷ 0 ∷ 0 ∷ 0 ∷ 1 ∷ 0 ∷ 0 ∷ 0 ∷ [])
          ∷ (4 ∷ 8 ∷ 0 ∷ 0 ∷ 1 ∷ 0 ∷ 0 ∷ 0 ∷ 0 ∷ 0 ∷ 0 ∷ 0 ∷ 0 ∷ 0 ∷ 0 ∷ 0 ∷ [])
          ∷ operator8 2 0 2
          ∷ (4 ∷ 8 ∷ 0 ∷ 0 ∷ 3 ∷ 0 ∷ 0 ∷ 0 ∷ 0 ∷ 0 ∷ 0 ∷ 0 ∷ 0 ∷ 0 ∷ 0 ∷ 0 ∷ [])
          ∷ [];
      rounds = 2;
      bound_met = false;
      variables = 2 ∷ 3 ∷ 4 ∷ [];
      facts = Open ∷ Marked ∷ Marked ∷ [];
    }

abbrev pub request_cases : List Case
request_cases =
    case_enable_zero
    ∷ case_enable_three
    ∷ case_enable_wide
    ∷ case_enable_free
    ∷ case_enable_secret
    ∷ case_enable_itself
    ∷ case_enable_opens
    ∷ case_enable_row
    ∷ case_counter
    ∷ case_enable_bound
    ∷ case_fixed
    ∷ case_zero_and
    ∷ case_zero_shift
    ∷ case_zero_less
    ∷ case_zero_elsewhere
    ∷ case_no_zero
    ∷ case_gated_bus
    ∷ case_gate_opens
    ∷ []
