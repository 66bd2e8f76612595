pub mod Buckets
pub mod Walks
pub mod Tables
pub mod Firsts
