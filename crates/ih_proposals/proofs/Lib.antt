pub mod Persons
