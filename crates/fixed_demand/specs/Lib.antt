pub mod Demand
