-- What is said of one answer, by what is said of another.
use Rattle.std.proofs.Common.{Result, Ok, Err}
use Rattle.std.specs.Prelude.{OnOk, OnErr}

pub ok_as : {A B : Type 0} (answer : Result A B) (P R : Type 0) → (P → R) → OnOk answer P → OnOk answer R
ok_as (Ok a) P R goes is = goes is
ok_as (Err b) P R goes is = tt

pub err_as : {A B : Type 0} (answer : Result A B) (P R : Type 0) → (P → R) → OnErr answer P → OnErr answer R
err_as (Ok a) P R goes is = tt
err_as (Err b) P R goes is = goes is

pub err_of : {A B : Type 0} (answer : Result A B) (P : Type 0) → P → OnErr answer P
err_of (Ok a) P is = tt
err_of (Err b) P is = is
